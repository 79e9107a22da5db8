-- Where a sweep of the points stands: upward row by row, and along each row from left to right. No caller of the library needs these
-- definitions: they say what the private functions of the sweep keep true.
use Rattle.std.specs.Prelude.{ℕ, ◌+◌, ◌<◌, ◌≤◌, ◌≡◌, Bool, true, false, cond, length, ℤ, pos, neg_ℤ, nat_abs}
use Rattle.std.specs.Bool.{xor}
use mathlib.Core.List.{List, [], ◌∷◌, ◌++◌, Memᴰ as In}
use Rattle.std.specs.Int.Signed.{le_z, lt_z}
use Rattle.plane.specs.declared.Point.{Point}
use Rattle.plane.specs.declared.Rect.{Rect}
use Rattle.plane.specs.Lists.{odd}
use Rattle.plane.specs.Words.{eq_z, right, top, rising, point_in_range}
use Rattle.rule.specs.Rule.{step, left_after, left_of, rule_list}
use Rattle.live.specs.declared.Live.{Live}

-- ---- The rule's list by number

-- the points that so many steps of the rule leave
abbrev pub after_steps : List Point → ℕ → List Point
after_steps ps i = left_after step i ps

-- the rectangle with this number in the list
unfoldable pub rect_no : List Point → ℕ → Rect
rect_no ps i = (step (after_steps ps i)).rect

-- ---- Live rectangles

-- its number in the list
abbrev pub number : Live → ℕ
number k = nat_abs k.place

-- the row where the rule ends it
unfoldable pub end_of : List Point → Live → ℤ
end_of ps k = top (rect_no ps (number k))

-- it is the rectangle with its number, of the first so many
pub record IsLive (ps : List Point) (given : ℕ) (k : Live) : Type 0 where
  pub place_is : k.place ≡ pos (number k)
  pub is-given : number k < given
  pub left_is : k.left ≡ (rect_no ps (number k)).x
  pub right_is : k.right ≡ right (rect_no ps (number k))
  pub row_is : k.row ≡ (rect_no ps (number k)).y

-- the upper corners of live rectangles
unfoldable pub tops : List Point → List Live → List Point
tops ps [] = []
tops ps (k ∷ ks) = record { x = k.left; y = end_of ps k } ∷ record { x = k.right; y = end_of ps k } ∷ tops ps ks

-- live rectangles from left to right, none over another
pub data Apart : List Live → Type 0 where
  none-live : Apart []
  then-right : {k : Live} {ks : List Live} → ((j : Live) → In j ks → le_z k.right j.left ≡ true) → Apart ks → Apart (k ∷ ks)

-- ---- Where the sweep stands

-- right of every coordinate: where there is no point
abbrev pub far : ℤ
far = pos 2_000_000_000

-- below every coordinate: where a sweep starts
abbrev pub first_row : ℤ
first_row = neg_ℤ far

-- the points to come in order; the row; on it the right end of the rectangle cut last, the left end of one that begins, and a point that
-- is in hand (each far where there is none); how many rectangles have begun; and the live ones, left of where the sweep is and right of it
pub record Stand : Type 0 where
  pub rest : List Point
  pub row : ℤ
  pub carried : ℤ
  pub opened : ℤ
  pub hand : ℤ
  pub given : ℕ
  pub passed : List Live
  pub ahead : List Live

-- the point of a row at x, if there is one
abbrev pub waiting : (x y : ℤ) → List Point
waiting x y = cond (eq_z x far) [] (record { x = x; y = y } ∷ [])

-- the points that wait on the row
abbrev pub waiting_points : Stand → List Point
waiting_points s = waiting s.carried s.row ++ (waiting s.opened s.row ++ waiting s.hand s.row)

-- whether an odd number of the points to come, the upper corners of live rectangles and the points that wait pass a test
abbrev pub shows : List Point → Stand → (Point → Bool) → Bool
shows ps s f = xor (odd f s.rest) (xor (odd f (tops ps s.passed)) (xor (odd f (tops ps s.ahead)) (odd f (waiting_points s))))

-- x is left of all points and live rectangles that are yet to come on the row
pub record Before (s : Stand) (x : ℤ) : Type 0 where
  pub before-rest : (q : Point) → In q s.rest → q.y ≡ s.row → lt_z x q.x ≡ true
  pub before-ahead : (k : Live) → In k s.ahead → lt_z x k.left ≡ true

-- what a sweep of accepted points keeps true
pub record Sweeping (ps : List Point) (s : Stand) : Type 0 where
  -- the points to come are those above the row, and some on it, in order
  pub rest-rising : rising s.rest ≡ true
  pub rest-range : (q : Point) → In q s.rest → point_in_range q ≡ true
  pub rest_from : (q : Point) → In q s.rest → le_z s.row q.y ≡ true
  pub rest_all : (q : Point) → In q ps → lt_z s.row q.y ≡ true → In q s.rest
  -- what the rule has left after so many steps is what the sweep shows
  pub shown : (f : Point → Bool) → odd f (after_steps ps s.given) ≡ shows ps s f
  -- the rectangles that have begun, begin at or below the row; the live ones are of them
  pub begun : (i : ℕ) → i < s.given → le_z (rect_no ps i).y s.row ≡ true
  pub given-few : s.given ≤ length (rule_list ps)
  pub passed-live : (k : Live) → In k s.passed → IsLive ps s.given k
  pub ahead-live : (k : Live) → In k s.ahead → IsLive ps s.given k
  -- those passed go on above the row; those ahead began below it and reach it
  pub passed_over : (k : Live) → In k s.passed → lt_z s.row (end_of ps k) ≡ true
  pub ahead-below : (k : Live) → In k s.ahead → lt_z k.row s.row ≡ true
  pub ahead-over : (k : Live) → In k s.ahead → le_z s.row (end_of ps k) ≡ true
  -- over the width of one ahead, the row is as the rule left it after that rectangle
  pub steady : (k : Live) → In k s.ahead → (b : ℤ) → le_z k.left b ≡ true → le_z b k.right ≡ true → odd (left_of b s.row) (after_steps ps s.given) ≡ odd (left_of b s.row) (after_steps ps (number k + 1))
  -- from left to right: those passed; the left end that is open; the point in hand; the rest of the row and those ahead; and the right
  -- end that is carried is not right of those ahead
  pub apart : Apart (s.passed ++ s.ahead)
  pub passed-rest : (k : Live) → In k s.passed → (q : Point) → In q s.rest → q.y ≡ s.row → le_z k.right q.x ≡ true
  pub passed-carried : (k : Live) → In k s.passed → le_z k.right s.carried ≡ true
  pub passed-opened : (k : Live) → In k s.passed → le_z k.right s.opened ≡ true
  pub passed-hand : (k : Live) → In k s.passed → le_z k.right s.hand ≡ true
  pub opened-first : eq_z s.opened far ≡ false → Before s s.opened × (lt_z s.opened s.carried ≡ true) × (lt_z s.opened s.hand ≡ true)
  pub hand_first : eq_z s.hand far ≡ false → Before s s.hand × (lt_z s.hand s.carried ≡ true)
  pub carried_first : eq_z s.carried far ≡ false → (k : Live) → In k s.ahead → le_z s.carried k.left ≡ true

-- x of the next point on the row, or far
abbrev pub next_on : (row : ℤ) → List Point → ℤ
next_on row [] = far
next_on row (p ∷ ps) = cond (eq_z p.y row) p.x far

-- a stand of these parts
abbrev pub stand : (rest : List Point) (row carried opened hand : ℤ) (given : ℕ) (passed ahead : List Live) → Stand
stand rest row carried opened hand given passed ahead = record { rest = rest; row = row; carried = carried; opened = opened; hand = hand; given = given; passed = passed; ahead = ahead }
