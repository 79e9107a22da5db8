-- The rows of document 01's table of refusals, and what is accepted of points and rectangles where none of theirs is given.
use Rattle.std.specs.Prelude.{ℕ, ◌*◌, ◌%◌, ◌≤◌, ◌≡◌, Bool, true, false, not, length, take, ℤ, ltb, eqb}
use mathlib.Core.List.{List, [], ◌∷◌, Memᴰ as In}
use Rattle.plane.specs.declared.Point.{Point}
use Rattle.plane.specs.declared.Rect.{Rect}
use Rattle.plane.specs.Lists.{any, odd, count}
use Rattle.plane.specs.Words.{most_points, point_at, same, on_row, in_column, point_in_range, rect_at, rect_in_range, flat}
use Rattle.plane.specs.Edge.{edge_length}
use Rattle.entry.specs.Checks.{Check, whole, each, needs, verdict}
use Rattle.entry.specs.Entry.{counted, Counted}

-- ---- The rows

-- 1 LENGTH: the array's length is not a multiple of the numbers to an item
abbrev pub LENGTH : (numbers item : ℕ) → Check
LENGTH numbers item = whole 1 0 (not (eqb (numbers % item) 0))

-- 2 MANY: over the most items
abbrev pub MANY : (most items : ℕ) → Check
MANY most items = whole 2 0 (ltb most items)

-- 3 WORK: the working array is shorter than two numbers per point
abbrev pub WORK : (work points : ℕ) → Check
WORK work points = whole 3 0 (ltb work (2 * points))

-- 4 RANGE: a coordinate out of range
abbrev pub RANGE : List Point → Check
RANGE ps = each 4 (length ps) (λ i. not (point_in_range (point_at ps i)))

-- 4 RANGE: a rectangle's coordinate or far side out of range
abbrev pub RANGE-rects : List Rect → Check
RANGE-rects rs = each 4 (length rs) (λ i. not (rect_in_range (rect_at rs i)))

-- 5 REPEATED: a point equal to an earlier one
abbrev pub REPEATED : List Point → Check
REPEATED ps = each 5 (length ps) (λ i. any (same (point_at ps i)) (take i ps))

-- 6 ROW: a point on a row with an odd count
abbrev pub ROW : List Point → Check
ROW ps = each 6 (length ps) (λ i. odd (on_row (point_at ps i).y) ps)

-- 7 COLUMN: a point in a column with an odd count
abbrev pub COLUMN : List Point → Check
COLUMN ps = each 7 (length ps) (λ i. odd (in_column (point_at ps i).x) ps)

-- 8 ROOM: the result needs more room
abbrev pub ROOM : (needed room : ℕ) → Check
ROOM needed room = needs 8 needed room

-- 9 FLAT: W or H below 1
abbrev pub FLAT : List Rect → Check
FLAT rs = each 9 (length rs) (λ i. flat (rect_at rs i))

-- 10 DRAINED: a step asked with no points left
abbrev pub DRAINED : (points : ℕ) → Check
DRAINED points = whole 10 0 (eqb points 0)

-- 11 TEXT: the program's input has a bad line
abbrev pub TEXT : (lines : ℕ) (bad : ℕ → Bool) → Check
TEXT lines bad = each 11 lines bad

-- what forward asks of the points themselves: 4, 6, 7
unfoldable pub balance_checks : List Point → List Check
balance_checks ps = RANGE ps ∷ ROW ps ∷ COLUMN ps ∷ []

-- what a step asks of them: 4, 5, 6, 7
unfoldable pub point_checks : List Point → List Check
point_checks ps = RANGE ps ∷ REPEATED ps ∷ ROW ps ∷ COLUMN ps ∷ []

-- before such checks, whether they are too many: 2
abbrev pub few_then : (checks : List Point → List Check) → List Point → List Check
few_then checks ps = MANY most_points (length ps) ∷ checks ps

-- the edge of the points, or what is refused of them
abbrev pub points_say : (checks : List Point → List Check) → List Point → Counted
points_say checks ps = counted (verdict (few_then checks ps)) (edge_length ps)

-- ---- What is accepted

-- points that a step accepts: in range, none twice, every row and every column with an even count; forward's may be there more than once
-- (`Balanced`, in the crate `plane`)
pub record Accepted (ps : List Point) : Type 0 where
  pub range : (q : Point) → In q ps → point_in_range q ≡ true
  pub once : (q : Point) → count (same q) ps ≤ 1
  pub rows : (y : ℤ) → odd (on_row y) ps ≡ false
  pub columns : (x : ℤ) → odd (in_column x) ps ≡ false

-- rectangles that backward accepts: W and H at least 1, and all in range
pub record AcceptedRects (rs : List Rect) : Type 0 where
  pub solid : (r : Rect) → In r rs → flat r ≡ false
  pub range : (r : Rect) → In r rs → rect_in_range r ≡ true
