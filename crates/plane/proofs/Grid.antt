-- Counting cells: rectangles that together hold just the cells that pass a test, each once, have areas that add up to
-- the number of those cells. All is proved for a square of n by n cells at (z, z), and the range is one such square.
use mathlib.Core.Path.{◌≡◌, refl, sym, ap, ap₂, ◌∙◌}
use Prim.Native.Nat.{ℕ, zero, suc, ◌+◌, ◌-◌, ◌*◌, ◌≤◌, ◌<◌, min}
use native.Mathlib.Omega.{arith}
use mathlib.Core.Bool.{Bool, true, false, ◌&&◌}
use mathlib.Core.List.{List, Memᴰ as In}
use lib.IntN.{ℤ, pos, nat_abs, ◌+ℤ◌, ◌-ℤ◌}
use lib.Signed.{le_z, lt_z}
use Rattle.plane.specs.declared.Rect.{Rect}
use Rattle.plane.specs.Lists.{bit, count, sum, sum_below}
use Rattle.plane.specs.Words.{low_end, high_end, range_size, in_range, right, top, rect_in_range, flat, area_of, holds, cells_from, cells, most_cells}
use Rattle.plane.proofs.Order.{order, up, dn, add-up, add-more, side-is, distance-up, pos-up}
use Rattle.plane.proofs.Bools.{and_parts, and-four, or_parts, bit-most}
use Rattle.plane.proofs.Sums.{sum-cong, count-sum, below-cong, below-most, below-sum, below-pairs}

-- ---- Numbers between two ends, among the n numbers from z on

-- how far x is above z, where it is
abbrev gap : ℤ → ℤ → ℕ
gap z x = (up x + dn z) - (up z + dn x)

-- one of them is so many above z
pub placed : (z a : ℤ) (n : ℕ) → le_z z a ≡ true → lt_z a (z +ℤ pos n) ≡ true → (i : ℕ) × (i < n) × (a ≡ z +ℤ pos i)
placed z a n l h = (gap z a, omega (order, add-up z (pos n), pos-up n), omega (order, add-up z (pos (gap z a)), pos-up (gap z a)))

-- those from x up to y are those below y, less those below x
between : (z x y : ℤ) (n : ℕ) → le_z z x ≡ true → le_z x y ≡ true → sum_below n (λ i. bit (le_z x (z +ℤ pos i) && lt_z (z +ℤ pos i) y)) + min n (gap z x) ≡ min n (gap z y)
unfolding sum_below
between z x y zero h k = omega arith
between z x y (suc n) h k = go (le_z x (z +ℤ pos n)) refl (lt_z (z +ℤ pos n) y) refl _ (between z x y n h k)
  where
    go : (b : Bool) → le_z x (z +ℤ pos n) ≡ b → (c : Bool) → lt_z (z +ℤ pos n) y ≡ c → (s : ℕ) → s + min n (gap z x) ≡ min n (gap z y) → bit (b && c) + s + min (suc n) (gap z x) ≡ min (suc n) (gap z y)
    go true d true e s ih = omega (order, add-up z (pos n), pos-up n)
    go true d false e s ih = omega (order, add-up z (pos n), pos-up n)
    go false d c e s ih = omega (order, add-up z (pos n), pos-up n)

-- they are the distance from x to y, where both are not outside
pub distance-counts : (z x y : ℤ) (n : ℕ) → le_z z x ≡ true → le_z x y ≡ true → le_z y (z +ℤ pos n) ≡ true → sum_below n (λ i. bit (le_z x (z +ℤ pos i) && lt_z (z +ℤ pos i) y)) ≡ nat_abs (y -ℤ x)
distance-counts z x y n h k l = omega (order, between z x y n h k, distance-up x y k, add-up z (pos n), pos-up n)

-- from x up to x + w they are w
pub span : (z x w : ℤ) (n : ℕ) → lt_z w (pos 1) ≡ false → le_z z x ≡ true → le_z (x +ℤ w) (z +ℤ pos n) ≡ true → sum_below n (λ i. bit (le_z x (z +ℤ pos i) && lt_z (z +ℤ pos i) (x +ℤ w))) ≡ nat_abs w
span z x w n d h k = let rises = add-more x w d in distance-counts z x (x +ℤ w) n h (omega order) k ∙ ap nat_abs (side-is x w)

-- ---- Cells of a square

-- a rectangle lies between two ends on both axes
record Within (low high : ℤ) (r : Rect) : Type 0 where
  x-low : le_z low r.x ≡ true
  x-high : le_z (right r) high ≡ true
  y-low : le_z low r.y ≡ true
  y-high : le_z (top r) high ≡ true

-- such a rectangle holds W · H cells of the square between the ends
square-hold : (z : ℤ) (n : ℕ) (r : Rect) → flat r ≡ false → Within z (z +ℤ pos n) r → cells_from z n (λ a b. holds a b r) ≡ area_of r
unfolding cells_from holds flat area_of
square-hold z n r f h =
    let wide = or_parts (lt_z r.w (pos 1)) (lt_z r.h (pos 1)) f in
    below-pairs (λ i. le_z r.x (z +ℤ pos i) && lt_z (z +ℤ pos i) (right r)) (λ j. le_z r.y (z +ℤ pos j) && lt_z (z +ℤ pos j) (top r)) n n
    ∙ ap₂ ◌*◌ (span z r.x r.w n wide.0 h.x-low h.x-high) (span z r.y r.h n wide.1 h.y-low h.y-high)

-- the cells held, rectangle by rectangle, are the cells that pass
square-sum : (z : ℤ) (n : ℕ) (rs : List Rect) (t : ℤ → ℤ → Bool) → ((a b : ℤ) → count (holds a b) rs ≡ bit (t a b)) → sum (λ r. cells_from z n (λ a b. holds a b r)) rs ≡ cells_from z n t
unfolding cells_from
square-sum z n rs t h = sym (below-sum n (λ i r. sum_below n (λ j. bit (holds (z +ℤ pos i) (z +ℤ pos j) r))) rs) ∙ below-cong n (λ i. line (z +ℤ pos i))
  where
    line : (a : ℤ) → sum (λ r. sum_below n (λ j. bit (holds a (z +ℤ pos j) r))) rs ≡ sum_below n (λ j. bit (t a (z +ℤ pos j)))
    line a = sym (below-sum n (λ j r. bit (holds a (z +ℤ pos j) r)) rs) ∙ below-cong n (λ j. sym (count-sum (holds a (z +ℤ pos j)) rs) ∙ h a (z +ℤ pos j))

-- at most all the cells of a square pass
square-most : (z : ℤ) (n : ℕ) (t : ℤ → ℤ → Bool) → cells_from z n t ≤ n * n
unfolding cells_from
square-most z n t = below-most n n _ (λ i. line (z +ℤ pos i))
  where
    line : (a : ℤ) → sum_below n (λ j. bit (t a (z +ℤ pos j))) ≤ n
    line a = omega (arith, below-most n 1 _ (λ j. bit-most (t a (z +ℤ pos j))))

-- ---- Cells of the range

-- a cell is one of the range
abbrev pub CellInRange : (a b : ℤ) → Type 0
CellInRange a b = ((le_z low_end a ≡ true) × (lt_z a high_end ≡ true)) × ((le_z low_end b ≡ true) × (lt_z b high_end ≡ true))

-- a number in range is between its ends
range-ends : (z : ℤ) → in_range z ≡ true → (le_z low_end z ≡ true) × (le_z z high_end ≡ true)
unfolding in_range
range-ends z e = and_parts (le_z low_end z) (le_z z high_end) e

-- a rectangle in range is within it
range-within : (r : Rect) → rect_in_range r ≡ true → Within low_end high_end r
unfolding rect_in_range
range-within r e =
    let h = and-four (in_range r.x) (in_range r.y) (in_range (right r)) (in_range (top r)) e in
    record { x-low = (range-ends r.x h.0).0; x-high = (range-ends (right r) h.2).1; y-low = (range-ends r.y h.1).0; y-high = (range-ends (top r) h.3).1 }

-- a rectangle in range holds W · H cells
pub cells-hold : (r : Rect) → flat r ≡ false → rect_in_range r ≡ true → cells (λ a b. holds a b r) ≡ area_of r
unfolding cells
cells-hold r f e = square-hold low_end range_size r f (range-within r e)

-- the areas of rectangles that hold just the cells that pass a test, each once, add up to the number of those cells
pub cells-areas : (rs : List Rect) (t : ℤ → ℤ → Bool) → ((r : Rect) → In r rs → flat r ≡ false) → ((r : Rect) → In r rs → rect_in_range r ≡ true) → ((a b : ℤ) → count (holds a b) rs ≡ bit (t a b)) → sum area_of rs ≡ cells t
unfolding cells
cells-areas rs t f e h = sum-cong area_of _ rs (λ r m. sym (cells-hold r (f r m) (e r m))) ∙ square-sum low_end range_size rs t h

-- no test passes more cells than there are in the range
pub cells-most : (t : ℤ → ℤ → Bool) → cells t ≤ most_cells
unfolding cells
cells-most t = square-most low_end range_size t
