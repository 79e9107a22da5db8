-- What the private functions speak of. No caller needs these definitions: the promise is in the crate `rule`.
use Rattle.std.specs.Prelude.{ℕ, ◌+◌, ◌-◌, ◌*◌, ◌/◌, ◌<◌, ◌≤◌, ◌≡◌, ◌⊎◌, Bool, true, not, cond, List, [], ◌++◌, length, get_or, take, drop, set, ℤ, pos, ◌-ℤ◌, ltb, ◌&&◌, Option, Some, None, Result, Ok, Err}
use Rattle.std.specs.Int.Signed.{le_z, lt_z}
use Rattle.plane.specs.declared.Point.{Point}
use Rattle.plane.specs.declared.Rect.{Rect}
use Rattle.plane.specs.Lists.{bit, sum, sum_below}
use Rattle.plane.specs.Words.{eq_z, same, points_of, rect_size, fours_of, rising, point_at, most_points}
use Rattle.plane.specs.Swaps.{off_pairs}
use Rattle.ordering.specs.Orders.{row_order, points_at}
use Rattle.entry.specs.declared.Refusal.{Refusal}
use Rattle.entry.specs.Refusals.{number_of}
use Rattle.entry.specs.Checks.{accepted, verdict}
use Rattle.rule.specs.Rule.{rule_list}
use Rattle.rule.specs.ForwardCall.{forward_list, input_checks}
use Rattle.rule.specs.Rows.{Accepted}
use Rattle.live.specs.declared.Live.{Live}
use Rattle.live.specs.Stands.{far, first_row, number, rect_no, stand, next_on, Stand, Sweeping}
use Rattle.sweep.specs.declared.Points.{Points}
use Rattle.sweep.specs.declared.Sweep.{Sweep}
use Rattle.sweep.specs.declared.Placed.{Placed}

-- ---- Rectangles in an array

-- an array with four numbers put from a place on
abbrev pub put_four : List ℤ → (from : ℕ) → (p q r s : ℤ) → List ℤ
put_four a from p q r s = set (set (set (set a from p) (from + 1) q) (from + 2) r) (from + 3) s

-- an array with these four put at place i, four by four
abbrev pub put_at : List ℤ → ℕ → (four : List ℤ) → List ℤ
put_at a i four = put_four a (rect_size * i) (get_or four 0 (pos 0)) (get_or four 1 (pos 0)) (get_or four 2 (pos 0)) (get_or four 3 (pos 0))

-- an array with a rectangle put at place i
abbrev pub put_rect : List ℤ → ℕ → Rect → List ℤ
put_rect a i r = put_four a (rect_size * i) r.x r.y r.w r.h

-- how many numbers a live rectangle has in an array
abbrev pub live_size : ℕ
live_size = 4

-- the live rectangles of an array
abbrev pub lives_of : List ℤ → List Live
lives_of a = fours_of (λ left right row place. record { left = left; right = right; row = row; place = place }) a

-- one of zeros
abbrev pub zero_live : Live
zero_live = record { left = pos 0; right = pos 0; row = pos 0; place = pos 0 }

-- the one at a place, zeros where there is none
abbrev pub live_at : List ℤ → ℕ → Live
live_at a i = get_or (lives_of a) i zero_live

-- an array with one put at place i
abbrev pub put_live : List ℤ → ℕ → Live → List ℤ
put_live a i k = put_four a (live_size * i) k.left k.right k.row k.place

-- ---- An array's start

-- past its first n numbers an array is as it was, and as long
pub record KeptPast (n : ℕ) (before after : List ℤ) : Type 0 where
  pub same_length : length after ≡ length before
  pub same-past : drop n after ≡ drop n before

-- ---- What is next

-- x of a point if it is on the row, and far of any other or of none
abbrev pub x_on : (row : ℤ) → Option Point → ℤ
x_on row None = far
x_on row (Some p) = cond (eq_z p.y row) p.x far

-- the live rectangle at a place below an end, unless x is left of it
abbrev pub reached_at : (work : List ℤ) (i end : ℕ) (x : ℤ) → Option Live
reached_at work i end x = cond (ltb i end && le_z (live_at work i).left x) (Some (live_at work i)) None

-- the nearer of the end at x and the right end carried
abbrev pub nearer : Sweep → (x : ℤ) → ℤ
nearer z x = cond (lt_z x z.carried) x z.carried

-- ---- What the moves make of where the sweep stands

-- before the first point
abbrev pub start_of : (room : ℕ) → Sweep
start_of room = record { next = 0; passed = 0; ahead = room; given = 0; row = first_row; carried = far; opened = far }

-- after its next point
abbrev pub after_point : Sweep → Sweep
after_point z = record z { next = z.next + 1 }

-- with this right end carried
abbrev pub with_carried : Sweep → ℤ → Sweep
with_carried z x = record z { carried = x }

-- without a point and the right end carried
abbrev pub cancelled : Sweep → Sweep
cancelled z = with_carried (after_point z) far

-- without the nearer of the point at x and the right end carried
abbrev pub taken_from : Sweep → (x : ℤ) → Sweep
taken_from z x = cond (lt_z x z.carried) (after_point z) (with_carried z far)

-- with this left end open
abbrev pub with_opened : Sweep → ℤ → Sweep
with_opened z x = record z { opened = x }

-- with the open one closed
abbrev pub closed : Sweep → Sweep
closed z = record z { passed = z.passed + 1; given = z.given + 1; opened = far }

-- the rectangle from the open end to this one
abbrev pub new_live : Sweep → (x : ℤ) → Live
new_live z x = record { left = z.opened; right = x; row = z.row; place = pos z.given }

-- with an end put on the row: it opens a rectangle, or closes the open one
abbrev pub end_put : Sweep → (x : ℤ) → Sweep
end_put z x = cond (eq_z z.opened far) (with_opened z x) (closed z)

-- the working array then
abbrev pub end_put_work : (work : List ℤ) → Sweep → (x : ℤ) → List ℤ
end_put_work work z x = cond (eq_z z.opened far) work (put_live work z.passed (new_live z x))

-- with the next one ahead passed
abbrev pub passing : Sweep → Sweep
passing z = record z { passed = z.passed + 1; ahead = z.ahead + 1 }

-- with the next one ahead ended, and its right end carried
abbrev pub carrying : Sweep → Live → Sweep
carrying z k = record z { ahead = z.ahead + 1; carried = k.right }

-- with both its ends put on the row; a left end goes with the nearer end where that is
abbrev pub cut_to : Sweep → (t : ℤ) → Live → Sweep
cut_to z t k = carrying (cond (eq_z (nearer z t) k.left) (taken_from z t) (end_put z k.left)) k

-- the working array then
abbrev pub cut_work : (work : List ℤ) → Sweep → (t : ℤ) → Live → List ℤ
cut_work work z t k = cond (eq_z (nearer z t) k.left) work (end_put_work work z k.left)

-- the rectangle of one that ends on the row
abbrev pub ended_box : Sweep → Live → Rect
ended_box z k = record { x = k.left; y = k.row; w = k.right -ℤ k.left; h = z.row -ℤ k.row }

-- with so many live rectangles passed, and the first ahead at this place
abbrev pub with_stacks : Sweep → (passed ahead : ℕ) → Sweep
with_stacks z passed ahead = record z { passed = passed; ahead = ahead }

-- on the row of a point
abbrev pub at_row : Sweep → Point → (passed ahead : ℕ) → Sweep
at_row z p passed ahead = record (with_stacks z passed ahead) { row = p.y }

-- turned to the row of a point: as many as are ahead again are passed no more, they stand before those ahead, and the last one that is
-- still passed is left of the point
pub record Turned (p : Point) (z : Sweep) (before : List ℤ) (r : Sweep) (after : List ℤ) : Type 0 where
  pub back : ℕ
  pub fewer : r.passed + back ≡ z.passed
  pub more : r.ahead + back ≡ z.ahead
  pub at-row : r ≡ at_row z p r.passed r.ahead
  pub still-passed : take r.passed (lives_of after) ≡ take r.passed (lives_of before)
  pub ahead-again : drop r.ahead (lives_of after) ≡ take back (drop r.passed (lives_of before)) ++ drop z.ahead (lives_of before)
  pub last-left : (r.passed ≡ 0) ⊎ (le_z (live_at before (r.passed - 1)).right p.x ≡ true)
  pub kept-past : KeptPast (live_size * z.ahead) before after

-- ---- A sweep of points

-- the points that are swept: those of an array at some places
abbrev pub swept_points : (a : List ℤ) (order : List ℕ) → List Point
swept_points a order = points_at (points_of a) order

-- the same, of the code's struct
abbrev pub swept : Points → List Point
swept points = swept_points points.given.now points.order.now

-- how many live rectangles the working array has room for
abbrev pub room_for : List Point → ℕ
room_for qs = length qs / 2

-- those passed
abbrev pub passed_in : (work : List ℤ) → Sweep → List Live
passed_in work z = take z.passed (lives_of work)

-- those ahead
abbrev pub ahead_in : (qs : List Point) (work : List ℤ) → Sweep → List Live
ahead_in qs work z = drop z.ahead (take (room_for qs) (lives_of work))

-- the points to come
abbrev pub rest_of : (qs : List Point) → Sweep → List Point
rest_of qs z = drop z.next qs

-- where the sweep stands, with a point in hand or none
abbrev pub stand_of : (qs : List Point) (work : List ℤ) (z : Sweep) (hand : ℤ) → Stand
stand_of qs work z hand = stand (rest_of qs z) z.row z.carried z.opened hand z.given (passed_in work z) (ahead_in qs work z)

-- 1 for an end that is there
abbrev pub there : ℤ → ℕ
there x = bit (not (eq_z x far))

-- points that can be swept, with a working array of so many numbers
pub record Ready (qs : List Point) (work : ℕ) : Type 0 where
  pub points : Accepted qs
  pub in_order : rising qs ≡ true
  pub few : length qs ≤ most_points
  pub working : 2 * length qs ≤ work

-- more rectangles than so many points have
abbrev pub most_begun : ℕ
most_begun = most_points * most_points

-- where a sweep stands there is room for one more: of what it counts nothing is at its most, nor is the working array full
pub record OneMore (z : Sweep) (work : ℕ) : Type 0 where
  pub next-few : z.next ≤ most_points
  pub given-few : z.given ≤ most_begun
  pub passed-few : z.passed < most_points
  pub ahead_few : z.ahead < most_points
  pub in_work : live_size * (z.passed + 1) ≤ work

-- a sweep of them is under way, with a point in hand or none
pub record Underway (qs : List Point) (work : List ℤ) (z : Sweep) (hand : ℤ) : Type 0 where
  pub ready : Ready qs (length work)
  pub next-within : z.next ≤ length qs
  pub passed-within : z.passed ≤ z.ahead
  pub ahead_within : z.ahead ≤ room_for qs
  pub carried-near : le_z z.carried far ≡ true
  -- the live rectangles and the points to come have room
  pub room : 2 * (z.passed + (room_for qs - z.ahead)) + ((length qs - z.next) + (there z.carried + (there z.opened + there hand))) ≤ length qs
  pub sweeping : Sweeping qs (stand_of qs work z hand)

-- how much is to come: every move makes it less
abbrev pub to_come : (qs : List Point) → Sweep → ℕ
to_come qs z = (2 * (length qs - z.next) + bit (eq_z (next_on z.row (rest_of qs z)) far)) * 8192 + (2 * (room_for qs - z.ahead) + there z.carried)

-- every weight, summed over the live rectangles' numbers
abbrev pub live_sum : (qs : List Point) (work : List ℤ) (z : Sweep) → (ℕ → ℕ) → ℕ
live_sum qs work z w = sum (λ k. w (number k)) (passed_in work z ++ ahead_in qs work z)

-- a move that goes on: what has begun is live
pub record GoesOn (qs : List Point) (z : Sweep) (before : List ℤ) (at : Sweep) (after : List ℤ) : Type 0 where
  pub kept : KeptPast (2 * length qs) before after
  pub underway : Underway qs after at far
  pub less : to_come qs at < to_come qs z
  pub balance : (w : ℕ → ℕ) → live_sum qs after at w + sum_below z.given w ≡ live_sum qs before z w + sum_below at.given w

-- a move that gives a rectangle: it is the one at its place in the list, and live no more
pub record Gives (qs : List Point) (z : Sweep) (before : List ℤ) (rect : Rect) (place : ℕ) (at : Sweep) (after : List ℤ) : Type 0 where
  pub kept : KeptPast (2 * length qs) before after
  pub underway : Underway qs after at far
  pub less : to_come qs at < to_come qs z
  pub in_list : place < length (rule_list qs)
  pub rect-is : rect ≡ rect_no qs place
  pub balance : (w : ℕ → ℕ) → live_sum qs after at w + (w place + sum_below z.given w) ≡ live_sum qs before z w + sum_below at.given w

-- no point is left: none is live, and all have begun
pub record AllGiven (qs : List Point) (z : Sweep) (before after : List ℤ) : Type 0 where
  pub kept : KeptPast (2 * length qs) before after
  pub none-live : passed_in before z ++ ahead_in qs before z ≡ []
  pub all-begun : z.given ≡ length (rule_list qs)

-- document 01's number for each case of a move: with a rectangle, or on the way to one, it is answer 0
abbrev pub move_number : Result (Option Placed) Refusal → ℕ
move_number (Ok _) = 0
move_number (Err e) = number_of e.reason

-- and its place, 0 with answer 0
abbrev pub move_place : Result (Option Placed) Refusal → ℕ
move_place (Ok _) = 0
move_place (Err e) = e.place

-- what a move does
abbrev pub Advanced : (qs : List Point) (z : Sweep) (before : List ℤ) → Result (Option Placed) Refusal → (at : Sweep) (after : List ℤ) → Type 0
Advanced qs z before (Ok None) at after = GoesOn qs z before at after
Advanced qs z before (Ok (Some r)) at after = Gives qs z before r.rect r.place at after
Advanced qs z before (Err e) at after = (move_number (Err e) ≡ 10) × (move_place (Err e) ≡ 0) × AllGiven qs z before after

-- ---- The points that remain

-- two places are of equal points
abbrev pub same_place : List Point → (i j : ℕ) → Bool
same_place ps i j = same (point_at ps i) (point_at ps j)

-- places without those of equal points, dropped two by two where they stand side by side
abbrev pub standing : List Point → (order : List ℕ) → List ℕ
standing ps order = off_pairs (same_place ps) order

-- ---- Checks

-- where forward's checks before the list is known refuse nothing, places begin with those of the points in order
pub record Ordered (a : List ℤ) (work : ℕ) (order : List ℕ) : Type 0 where
  pub in_order : verdict (input_checks a work) ≡ accepted → take (length a / 2) order ≡ row_order (points_of a)

-- ---- The array's points

-- the points at places stand for those that remain of an array: they can be swept, have the same list, and are no more than were given
pub record StandFor (a : List ℤ) (work : ℕ) (order : List ℕ) : Type 0 where
  pub ready : Ready (swept_points a order) work
  pub no_more : length order ≤ length a / 2
  pub same-list : rule_list (swept_points a order) ≡ forward_list a
