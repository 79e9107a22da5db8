-- The words of document 01: points, rectangles, the range, cells, rows and columns, and the order of points.
use Rattle.std.specs.Prelude.{ℕ, ◌+◌, ◌*◌, Bool, true, false, not, cond, ◌&&◌, ◌||◌, List, [], ◌∷◌, get_or, ℤ, pos, negsuc, nat_abs, ◌+ℤ◌, eqb}
use Rattle.std.specs.Int.Signed.{le_z, lt_z}
use Rattle.plane.specs.declared.Point.{Point}
use Rattle.plane.specs.declared.Rect.{Rect}
use Rattle.plane.specs.Lists.{bit, any, odd, keep, sum_below}

-- ---- Numbers

-- two whole numbers are equal
unfoldable pub eq_z : ℤ → ℤ → Bool
eq_z (pos a) (pos b) = eqb a b
eq_z (pos a) (negsuc b) = false
eq_z (negsuc a) (pos b) = false
eq_z (negsuc a) (negsuc b) = eqb a b

-- the numbers of a list, each once
unfoldable pub different : List ℤ → List ℤ
different [] = []
different (z ∷ zs) = keep (not (any (eq_z z) zs)) z (different zs)

-- -1,000,000,000, the low end of the range
abbrev pub low_end : ℤ
low_end = negsuc 999_999_999

-- 1,000,000,000, the high end
abbrev pub high_end : ℤ
high_end = pos 1_000_000_000

-- how many cells wide and high the range is
abbrev pub range_size : ℕ
range_size = 2_000_000_000

-- a number is in the range
unfoldable pub in_range : ℤ → Bool
in_range z = le_z low_end z && le_z z high_end

-- ---- Points

-- the most points that forward and a step take
abbrev pub most_points : ℕ
most_points = 4096

-- the point (0, 0)
abbrev pub origin : Point
origin = record { x = pos 0; y = pos 0 }

-- the points of an array: x then y, point after point
unfoldable pub points_of : List ℤ → List Point
points_of [] = []
points_of (x ∷ []) = []
points_of (x ∷ y ∷ rest) = record { x = x; y = y } ∷ points_of rest

-- the point at a place, and (0, 0) where there is none
abbrev pub point_at : List Point → ℕ → Point
point_at ps i = get_or ps i origin

-- points as an array
unfoldable pub flat_points : List Point → List ℤ
flat_points [] = []
flat_points (p ∷ ps) = p.x ∷ p.y ∷ flat_points ps

-- both coordinates are in range
unfoldable pub point_in_range : Point → Bool
point_in_range p = in_range p.x && in_range p.y

-- two points are the same
unfoldable pub same : Point → Point → Bool
same p q = eq_z p.x q.x && eq_z p.y q.y

-- a point is of row y
unfoldable pub on_row : (y : ℤ) → Point → Bool
on_row y p = eq_z p.y y

-- a point is of column x
unfoldable pub in_column : (x : ℤ) → Point → Bool
in_column x p = eq_z p.x x

-- p comes before q in the order of y, then x
unfoldable pub before : Point → Point → Bool
before p q = lt_z p.y q.y || (eq_z p.y q.y && lt_z p.x q.x)

-- points after p stand in strictly rising order, each once
unfoldable pub rising_after : Point → List Point → Bool
rising_after p [] = true
rising_after p (q ∷ qs) = before p q && rising_after q qs

-- points stand in strictly rising order of y, then x
unfoldable pub rising : List Point → Bool
rising [] = true
rising (p ∷ ps) = rising_after p ps

-- a point put in its place of a rising list; there already, the list stays
unfoldable pub insert : Point → List Point → List Point
insert p [] = p ∷ []
insert p (q ∷ qs) = cond (before p q) (p ∷ q ∷ qs) (cond (same p q) (q ∷ qs) (q ∷ insert p qs))

-- points in order of y, then x, each once
unfoldable pub in_order : List Point → List Point
in_order [] = []
in_order (p ∷ ps) = insert p (in_order ps)

-- ---- Rectangles

-- the most rectangles that backward takes
abbrev pub most_rects : ℕ
most_rects = 16384

-- how many numbers a rectangle has in an array
abbrev pub rect_size : ℕ
rect_size = 4

-- what is made of an array's numbers, four by four
unfoldable pub fours_of : {A : Type 0} → (ℤ → ℤ → ℤ → ℤ → A) → List ℤ → List A
fours_of make [] = []
fours_of make (x ∷ []) = []
fours_of make (x ∷ y ∷ []) = []
fours_of make (x ∷ y ∷ w ∷ []) = []
fours_of make (x ∷ y ∷ w ∷ h ∷ rest) = make x y w h ∷ fours_of make rest

-- the rectangles of an array: X, Y, W, H, rectangle after rectangle
unfoldable pub rects_of : List ℤ → List Rect
rects_of a = fours_of (λ x y w h. record { x = x; y = y; w = w; h = h }) a

-- the rectangle at a place, and zeros where there is none
abbrev pub rect_at : List Rect → ℕ → Rect
rect_at rs i = get_or rs i (record { x = pos 0; y = pos 0; w = pos 0; h = pos 0 })

-- rectangles as an array
unfoldable pub flat_rects : List Rect → List ℤ
flat_rects [] = []
flat_rects (r ∷ rs) = r.x ∷ r.y ∷ r.w ∷ r.h ∷ flat_rects rs

-- the far side X + W
abbrev pub right : Rect → ℤ
right r = r.x +ℤ r.w

-- the far side Y + H
abbrev pub top : Rect → ℤ
top r = r.y +ℤ r.h

-- X, Y, X + W and Y + H are in range
unfoldable pub rect_in_range : Rect → Bool
rect_in_range r = (in_range r.x && in_range r.y) && (in_range (right r) && in_range (top r))

-- W or H is below 1
unfoldable pub flat : Rect → Bool
flat r = lt_z r.w (pos 1) || lt_z r.h (pos 1)

-- the lower left corner
abbrev pub lower_left : Rect → Point
lower_left r = record { x = r.x; y = r.y }

-- the four corners
unfoldable pub corners_of : Rect → List Point
corners_of r = lower_left r ∷ record { x = right r; y = r.y } ∷ record { x = r.x; y = top r } ∷ record { x = right r; y = top r } ∷ []

-- W · H, where both are at least 1
unfoldable pub area_of : Rect → ℕ
area_of r = nat_abs r.w * nat_abs r.h

-- 2 · (W + H)
unfoldable pub edge_of : Rect → ℕ
edge_of r = 2 * (nat_abs r.w + nat_abs r.h)

-- ---- Cells: (a, b) is the unit square with lower left corner (a, b)

-- a rectangle holds the cell
unfoldable pub holds : (a b : ℤ) → Rect → Bool
holds a b r = (le_z r.x a && lt_z a (right r)) && (le_z r.y b && lt_z b (top r))

-- a point has x ≤ a and y ≤ b
unfoldable pub under : (a b : ℤ) → Point → Bool
under a b p = le_z p.x a && le_z p.y b

-- points mark the cell: an odd number of them have x ≤ a and y ≤ b
unfoldable pub marks : List Point → (a b : ℤ) → Bool
marks ps a b = odd (under a b) ps

-- how many cells of a square of n by n cells with lower left corner (z, z) pass a test
unfoldable pub cells_from : (z : ℤ) (n : ℕ) → (ℤ → ℤ → Bool) → ℕ
cells_from z n t = sum_below n (λ i. sum_below n (λ j. bit (t (z +ℤ pos i) (z +ℤ pos j))))

-- how many cells of the range pass a test
unfoldable pub cells : (ℤ → ℤ → Bool) → ℕ
cells t = cells_from low_end range_size t

-- 4·10^18, how many cells the range has
abbrev pub most_cells : ℕ
most_cells = 4_000_000_000_000_000_000
