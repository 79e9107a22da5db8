-- The making of the list by a sweep: the rectangles given so far, counted and summed, and put at their places if asked for.
use Prim.Native.Nat.{ℕ, ◌+◌, ◌*◌, ◌≤◌, ◌<◌}
use native.Mathlib.Omega.{arith}
use mathlib.Core.Path.{◌≡◌, refl, sym, ap, ◌∙◌}
use mathlib.Core.Bool.{false}
use mathlib.Core.List.{List, [], ◌∷◌, Memᴰ as In}
use lib.ListN.{length}
use lib.IntN.{ℤ}
use lib.Dec.{eqb}
use borrow.Author.Tests.{eqb-true, eq-eqb}
use Rattle.plane.specs.declared.Point.{Point}
use Rattle.plane.specs.declared.Rect.{Rect}
use Rattle.plane.specs.Lists.{bit, sum, sum_below, at_start}
use Rattle.plane.specs.Words.{eq_z, rect_size, flat_rects, flat, area_of}
use Rattle.plane.proofs.Sums.{sum-length, count-sum, count-find, below-grows, below-has, below-list}
use Rattle.plane.proofs.Places.{stretch-none}
use Rattle.rule.specs.Rule.{rule_list}
use Rattle.rule.specs.Rows.{Accepted}
use Rattle.rule.specs.ForwardCall.{sums_of}
use Rattle.live.specs.Stands.{far, rect_no}
use Rattle.live.proofs.Moves.{starts}
use Rattle.live.proofs.Numbered.{list_at, rect-no-solid}
use Rattle.sweep.specs.declared.Sweep.{Sweep}
use Rattle.sweep.specs.Inner.{put_rect, KeptPast, lives_of, start_of, room_for, ahead_in, Ready, Underway, live_sum, GoesOn, Gives, AllGiven, most_begun}
use Rattle.sweep.proofs.Past.{kept-all, kept_on}
use Rattle.sweep.proofs.Going.{given-most}
use Rattle.sweep.proofs.Putting.{Puts, puts_none, puts-next, puts-all}

-- ---- Where the making stands

-- a weight of rectangles as one of their numbers
abbrev pub by_number : List Point → (Rect → ℕ) → ℕ → ℕ
by_number ps f i = f (rect_no ps i)

-- a sweep is under way, and the numbers of the rectangles that it has given and of the live ones are those of all that have begun
pub record Making (qs : List Point) (work₀ work : List ℤ) (z : Sweep) (finished : List ℕ) : Type 0 where
  pub underway : Underway qs work z far
  pub kept : KeptPast (2 * length qs) work₀ work
  pub tally : (w : ℕ → ℕ) → sum w finished + live_sum qs work z w ≡ sum_below z.given w

-- those given are counted and summed
pub record Summing (qs : List Point) (work₀ work : List ℤ) (z : Sweep) (count area : ℕ) : Type 0 where
  pub finished : List ℕ
  pub making : Making qs work₀ work z finished
  pub counted : count ≡ length finished
  pub areas : area ≡ sum (by_number qs area_of) finished

-- those given are put
pub record Writing (qs : List Point) (work₀ rects₀ work rects : List ℤ) (z : Sweep) : Type 0 where
  pub finished : List ℕ
  pub making : Making qs work₀ work z finished
  pub room : rect_size * length (rule_list qs) ≤ length rects₀
  pub puts : Puts qs finished rects₀ rects

-- the sum by number over the whole list is the sum over it
by-list : (ps : List Point) → Accepted ps → (f : Rect → ℕ) → sum_below (length (rule_list ps)) (by_number ps f) ≡ sum f (rule_list ps)
by-list ps acc f = below-list (by_number ps f) f (rule_list ps) (rect_no ps 0) (λ i h. ap f (sym (list_at ps acc i (rect_no ps 0) h)))

-- ---- The start

-- at the start none are ahead
none_ahead : (qs : List Point) (work : List ℤ) → ahead_in qs work (start_of (room_for qs)) ≡ []
none_ahead qs work = stretch-none (lives_of work) (room_for qs) (room_for qs) (omega arith)

-- a sweep is under way
starts-underway : {qs : List Point} {work : List ℤ} → Ready qs (length work) → Underway qs work (start_of (room_for qs)) far
unfolding eq_z
starts-underway {qs} {work} r = record {
  ready = r;
  next-within = omega arith;
  passed-within = omega arith;
  ahead_within = omega arith;
  carried-near = refl;
  room = omega arith;
  sweeping = rw (none_ahead qs work) (starts r.points r.in_order);
}

-- and none are given
starts-making : {qs : List Point} {work : List ℤ} {z : Sweep} → Ready qs (length work) → z ≡ start_of (room_for qs) → Making qs work work z []
unfolding sum sum_below
starts-making {qs} {work} r s = rw s (record { underway = starts-underway r; kept = kept-all; tally = λ w. rw (none_ahead qs work) })

-- nor counted
pub starts-summing : {qs : List Point} {work : List ℤ} {z : Sweep} → Ready qs (length work) → z ≡ start_of (room_for qs) → Summing qs work work z 0 0
unfolding sum
starts-summing r s = record { finished = []; making = starts-making r s; counted = refl; areas = refl }

-- nor put
pub starts-writing : {qs : List Point} {work rects : List ℤ} {z : Sweep} → Ready qs (length work) → rect_size * length (rule_list qs) ≤ length rects → z ≡ start_of (room_for qs) → Writing qs work rects work rects z
starts-writing r room s = record { finished = []; making = starts-making r s; room = room; puts = puts_none }

-- ---- One move further

-- numbers that with the live ones are all that have begun: every weight sums over them to at most its sum over the list
sum-within : {qs : List Point} {work₀ work : List ℤ} {z : Sweep} {finished : List ℕ} (f : Rect → ℕ) → Making qs work₀ work z finished → sum (by_number qs f) finished ≤ sum f (rule_list qs)
sum-within {qs} f m = omega (arith, m.tally (by_number qs f), below-grows (by_number qs f) m.underway.sweeping.given-few, by-list qs m.underway.ready.points f)

-- a move that goes on gives none
none-given : {qs : List Point} {work₀ work work' : List ℤ} {z at : Sweep} {finished : List ℕ} → Making qs work₀ work z finished → GoesOn qs z work at work' → Making qs work₀ work' at finished
none-given m g = record { underway = g.underway; kept = kept_on m.kept g.kept; tally = λ w. omega (arith, m.tally w, g.balance w) }

-- with the rectangle given those that have begun are given or live
one-given : {qs : List Point} {work₀ work work' : List ℤ} {z at : Sweep} {finished : List ℕ} {rect : Rect} {place : ℕ} → Making qs work₀ work z finished → Gives qs z work rect place at work' → Making qs work₀ work' at (place ∷ finished)
unfolding sum
one-given m g = record { underway = g.underway; kept = kept_on m.kept g.kept; tally = λ w. omega (arith, m.tally w, g.balance w) }

-- the rectangle given is not flat
pub given-solid : {qs : List Point} {work work' : List ℤ} {z at : Sweep} {rect : Rect} {place : ℕ} → Gives qs z work rect place at work' → flat rect ≡ false
given-solid {qs} {place = place} g = rw g.rect-is (rect-no-solid qs g.underway.ready.points place g.in_list).0

module _ {qs : List Point} {work₀ work : List ℤ} {z : Sweep} {count area : ℕ} (s : Summing qs work₀ work z count area) where
  -- no more are given than the list has
  pub count-fits : count ≤ most_begun
  count-fits =
      let u = s.making.underway in
      given-most qs count u.ready.few (omega (arith, s.counted, sum-length s.finished, sum-within (λ r. 1) s.making, sum-length (rule_list qs)))

  -- a move that goes on
  pub still-summed : {at : Sweep} {work' : List ℤ} → GoesOn qs z work at work' → Summing qs work₀ work' at count area
  still-summed g = record { finished = s.finished; making = none-given s.making g; counted = s.counted; areas = s.areas }

  module _ {rect : Rect} {place : ℕ} {at : Sweep} {work' : List ℤ} (g : Gives qs z work rect place at work') where
    -- its weight added to the sum so far is at most the sum over the list
    pub added-within : (f : Rect → ℕ) {a t : ℕ} → a ≡ sum (by_number qs f) s.finished → t ≡ f rect → a + t ≤ sum f (rule_list qs)
    unfolding sum
    added-within f e h = omega (arith, sum-within f (one-given s.making g), ap f g.rect-is)

    -- so is its area
    pub area-within : {t : ℕ} → t ≡ area_of rect → area + t ≤ sum area_of (rule_list qs)
    area-within h = added-within area_of s.areas h

    -- one more is counted and summed
    pub one-summed : {t : ℕ} → t ≡ area_of rect → Summing qs work₀ work' at (count + 1) (area + t)
    unfolding sum
    one-summed h = record { finished = place ∷ s.finished; making = one-given s.making g; counted = omega (arith, s.counted); areas = omega (arith, s.areas, ap area_of g.rect-is) }

module _ {qs : List Point} {work₀ rects₀ work rects : List ℤ} {z : Sweep} (s : Writing qs work₀ rects₀ work rects z) where
  -- the output keeps its length
  pub output-length : length rects ≡ length rects₀
  output-length = s.puts.kept.same_length

  -- a move that goes on
  pub still-put : {at : Sweep} {work' : List ℤ} → GoesOn qs z work at work' → Writing qs work₀ rects₀ work' rects at
  still-put g = record { finished = s.finished; making = none-given s.making g; room = s.room; puts = s.puts }

  -- one more is put at its place
  pub one-put : {rect : Rect} {place : ℕ} {at : Sweep} {work' rects' : List ℤ} → Gives qs z work rect place at work' → rects' ≡ put_rect rects place rect → Writing qs work₀ rects₀ work' rects' at
  one-put {place = place} g e = record { finished = place ∷ s.finished; making = one-given s.making g; room = s.room; puts = rw (e, g.rect-is) (puts-next s.room s.puts place g.in_list) }

-- ---- All are made

module _ {qs : List Point} {work₀ work : List ℤ} {z : Sweep} {finished : List ℕ} (m : Making qs work₀ work z finished) {work' : List ℤ} (all : AllGiven qs z work work') where
  -- every weight has its sum over all the numbers
  all-summed : (w : ℕ → ℕ) → sum w finished ≡ sum_below (length (rule_list qs)) w
  unfolding sum
  all-summed w =
      let none : live_sum qs work z w ≡ 0 = rw all.none-live in
      omega (arith, m.tally w, none, ap (λ n. sum_below n w) all.all-begun)

  -- so a weight of rectangles has its sum over the list
  list-summed : (f : Rect → ℕ) → sum (by_number qs f) finished ≡ sum f (rule_list qs)
  list-summed f = all-summed (by_number qs f) ∙ by-list qs m.underway.ready.points f

  -- every number of the list is given
  all_there : (i : ℕ) → i < length (rule_list qs) → In i finished
  all_there i h =
      let w : ℕ → ℕ = λ j. bit (eqb i j) in
      let r = count-find (eqb i) finished (omega (arith, count-sum (eqb i) finished, all-summed w, below-has w h, ap bit (eq-eqb i i refl))) in
      rw (eqb-true i r.0 r.2) r.1

-- so the sums are the list's
pub all-counted : {qs : List Point} {work₀ work work' : List ℤ} {z : Sweep} {count area : ℕ} → Summing qs work₀ work z count area → AllGiven qs z work work' → (edge : ℕ) → KeptPast (2 * length qs) work₀ work' × (record { count = count; area = area; edge = edge } ≡ sums_of (rule_list qs) edge)
all-counted {qs} {count = count} {area = area} s all edge =
    let counted : count ≡ length (rule_list qs) = s.counted ∙ sym (sum-length s.finished) ∙ list-summed s.making all (λ r. 1) ∙ sum-length (rule_list qs) in
    let areas : area ≡ sum area_of (rule_list qs) = s.areas ∙ list-summed s.making all area_of in
    (kept_on s.making.kept all.kept, λ i. record { count = counted i; area = areas i; edge = edge })

-- and the output is
pub all-written : {qs : List Point} {work₀ rects₀ work rects work' : List ℤ} {z : Sweep} → Writing qs work₀ rects₀ work rects z → AllGiven qs z work work' → KeptPast (2 * length qs) work₀ work' × (rects ≡ at_start (flat_rects (rule_list qs)) rects₀)
all-written s all = (kept_on s.making.kept all.kept, puts-all s.room s.puts s.making.underway.ready.points (all_there s.making all))
