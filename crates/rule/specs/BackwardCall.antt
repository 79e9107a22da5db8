-- A call of backward: what it checks and accepts, what it answers, and what the output holds afterwards, of the array and the output (or its
-- length).
use Rattle.std.specs.Prelude.{ℕ, ◌/◌, ◌%◌, ◌≤◌, ◌≡◌, List, [], ◌∷◌, length, take, ℤ}
use Rattle.plane.specs.declared.Point.{Point}
use Rattle.plane.specs.Words.{points_of, flat_points, most_rects, rect_size, rects_of}
use Rattle.entry.specs.Checks.{Check, verdict}
use Rattle.entry.specs.Entry.{counted, written, Done, Counted}
use Rattle.rule.specs.Back.{back_list}
use Rattle.rule.specs.Rows.{LENGTH, MANY, FLAT, RANGE-rects, ROOM, AcceptedRects}

-- the points: the backward rule's, of the array's rectangles
abbrev pub backward_points : (a : List ℤ) → List Point
backward_points a = back_list (rects_of a)

-- what it checks: 1, 2, 9, 4, 8
unfoldable pub backward_checks : (a : List ℤ) (out : ℕ) → List Check
backward_checks a out =
    LENGTH (length a) rect_size ∷ MANY most_rects (length a / rect_size) ∷ FLAT (rects_of a) ∷ RANGE-rects (rects_of a) ∷ ROOM (length (backward_points a)) (out / 2) ∷ []

-- what it accepts
pub record BackwardAccepted (a : List ℤ) (out : ℕ) : Type 0 where
  pub even : length a % rect_size ≡ 0
  pub few : length a / rect_size ≤ most_rects
  pub rects : AcceptedRects (rects_of a)
  pub room : length (backward_points a) ≤ out / 2

-- what it returns: the count is of points
abbrev pub backward_answer : (a : List ℤ) (out : ℕ) → Counted
backward_answer a out = counted (verdict (backward_checks a out)) (length (backward_points a))

-- what the output holds afterwards
abbrev pub backward_out : (a out : List ℤ) → List ℤ
backward_out a out = written (verdict (backward_checks a (length out))) (flat_points (backward_points a)) out

-- what it promises, for every input: these two
abbrev pub BackwardDone : (a out : List ℤ) (r : Counted) (out-after : List ℤ) → Type 0
BackwardDone a out r out-after = Done (backward_checks a (length out)) (length (backward_points a)) (flat_points (backward_points a)) out r out-after

-- the points as the caller reads them: as many as the answer counts, from the start of the output
abbrev pub points_listed : Counted → (out : List ℤ) → List Point
points_listed r out = take r.count (points_of out)
