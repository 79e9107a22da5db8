-- The corners handed on mark exactly the cells that the boundaries mark, and OVERLAP is a matter of areas.
use mathlib.Core.Path.{◌≡◌, refl, sym, ap, ap₂, fun_ext, ◌∙◌}
use mathlib.Core.Logic.{◌↔◌}
use Prim.Native.Nat.{ℕ, ◌≤◌}
use native.Mathlib.Omega.{arith}
use mathlib.Core.Bool.{Bool, true, false, xor}
use mathlib.Core.List.Memᴰ.{append_left}
use mathlib.Core.List.Memᴰ.{append_right}
use mathlib.Core.List.Memᴰ.{head}
use mathlib.Core.List.Memᴰ.{not-nil}
use mathlib.Core.List.Memᴰ.{tail}
use mathlib.Core.List.{List, [], ◌∷◌, Memᴰ as In}
use lib.IntN.{ℤ}
use lib.Dec.{ltb}
use Rattle.plane.specs.declared.Point.{Point}
use Rattle.plane.specs.Lists.{bit, any, count, odd, sum}
use Rattle.plane.specs.Words.{point_in_range, under, marks, on_row, in_column, cells}
use Rattle.plane.specs.Remaining.{Balanced}
use Rattle.plane.proofs.Bools.{by}
use Rattle.plane.proofs.Sums.{sum-cong, any-find, count_none, count-in, count-find}
use Rattle.plane.proofs.Parity.{odd-append, odd-none, once-odd}
use Rattle.plane.proofs.Grid.{CellInRange}
use Rattle.plane.proofs.Edge.{marked-inside}
use Rattle.boundaries.specs.Boundary.{slanted, is_open, inside, boundary_corners, handed_on, markers, overlaps}
use Rattle.boundaries.proofs.Rays.{corners-mark, corners-rows, corners-columns, corners-balanced}
use Rattle.boundaries.proofs.Areas.{areas-tell, areas-apart, areas-find}

-- ---- Boundaries that are read

-- how many cells the corners of a boundary mark
abbrev pub corners_area : List Point → ℕ
corners_area vs = cells (marks (boundary_corners vs))

-- closed and not slanted, each of them
pub record Shapes (bs : List (List Point)) : Type 0 where
  pub shut : (vs : List Point) → In vs bs → is_open vs ≡ false
  pub square : (vs : List Point) → In vs bs → slanted vs ≡ false

-- none, and one more
pub shapes-none : Shapes []
shapes-none = record { shut = λ vs m. absurd (not-nil m); square = λ vs m. absurd (not-nil m) }

pub shapes-with : {vs : List Point} {bs : List (List Point)} → is_open vs ≡ false → slanted vs ≡ false → Shapes bs → Shapes (vs ∷ bs)
shapes-with {vs} {bs} o n s = record { shut = λ us m. first is_open us m o (s.shut us); square = λ us m. first slanted us m n (s.square us) }
  where
    first : (t : List Point → Bool) (us : List Point) → In us (vs ∷ bs) → t vs ≡ false → (In us bs → t us ≡ false) → t us ≡ false
    first t us (head e) h g = rw e h
    first t us (tail m) h g = g m

-- a parity over the corners handed on, where it is a test's of each boundary
handed-odd : (f : Point → Bool) (g : List Point → Bool) (bs : List (List Point)) → ((vs : List Point) → In vs bs → odd f (boundary_corners vs) ≡ g vs) → odd f (handed_on bs) ≡ odd g bs
unfolding handed_on odd
handed-odd f g [] h = refl
handed-odd f g (vs ∷ bs) h = odd-append f (boundary_corners vs) (handed_on bs) ∙ ap₂ xor (h vs (head refl)) (handed-odd f g bs (λ us m. h us (tail m)))

-- it is even, where it is even of each
handed-even : (f : Point → Bool) (bs : List (List Point)) → ((vs : List Point) → In vs bs → odd f (boundary_corners vs) ≡ false) → odd f (handed_on bs) ≡ false
handed-even f bs h = handed-odd f (λ vs. false) bs h ∙ odd-none (λ vs. false) bs (λ vs m. refl)

-- a corner of a boundary is handed on
handed-in : (bs : List (List Point)) {vs : List Point} {p : Point} → In vs bs → In p (boundary_corners vs) → In p (handed_on bs)
unfolding handed_on
handed-in [] i m = elim i [ ]
handed-in (us ∷ bs) {vs} {p} (head e) m = append_left (handed_on bs) (rw e at m)
handed-in (us ∷ bs) (tail i) m = append_right (boundary_corners us) (handed-in bs i m)

module _ (bs : List (List Point)) (s : Shapes bs) where
  -- the corners handed on mark a cell exactly when an odd number of boundaries do
  pub handed-marks : (a b : ℤ) → marks (handed_on bs) a b ≡ odd (inside a b) bs
  unfolding marks
  handed-marks a b = handed-odd (under a b) (inside a b) bs (λ vs m. corners-mark vs (s.shut vs m) (s.square vs m) a b)

  -- every row has an even number of them
  pub handed-rows : (y : ℤ) → odd (on_row y) (handed_on bs) ≡ false
  handed-rows y = handed-even (on_row y) bs (λ vs m. corners-rows vs (s.shut vs m) (s.square vs m) y)

  -- and every column
  pub handed-columns : (x : ℤ) → odd (in_column x) (handed_on bs) ≡ false
  handed-columns x = handed-even (in_column x) bs (λ vs m. corners-columns vs (s.shut vs m) (s.square vs m) x)

  -- OVERLAP exactly when the areas of the boundaries together are more than the area of all their corners
  pub overlaps-by-area : overlaps bs ≡ ltb (cells (marks (handed_on bs))) (sum corners_area bs)
  unfolding overlaps markers
  overlaps-by-area = areas-tell inside bs ∙ ap₂ ltb (ap cells (fun_ext (λ a. fun_ext (λ b. sym (handed-marks a b))))) (sum-cong _ _ bs (λ vs m. ap cells (fun_ext (λ a. fun_ext (λ b. sym (corners-mark vs (s.shut vs m) (s.square vs m) a b))))))

-- ---- With all corners in range

module _ (bs : List (List Point)) (s : Shapes bs) (within : (p : Point) → In p (handed_on bs) → point_in_range p ≡ true) where
  -- together they are points that forward takes
  pub handed-balanced : Balanced (handed_on bs)
  handed-balanced = record { range = within; rows = handed-rows bs s; columns = handed-columns bs s }

  -- a boundary marks only cells of the range
  inside-within : (vs : List Point) → In vs bs → (a b : ℤ) → inside a b vs ≡ true → CellInRange a b
  inside-within vs m a b e =
      let o = s.shut vs m in
      let n = s.square vs m in
      marked-inside (boundary_corners vs) (corners-balanced vs o n (λ p i. within p (handed-in bs m i))) a b (corners-mark vs o n a b ∙ e)

  -- OVERLAP exactly when two boundaries mark one cell, of all cells there are
  pub overlaps-exactly : (overlaps bs ≡ true) ↔ ((a : ℤ) × (b : ℤ) × (2 ≤ markers bs a b))
  unfolding overlaps markers
  overlaps-exactly = (
    areas-find inside bs,
    λ r. by _ (λ e.
        let k = count-find (inside r.0 r.1) bs (omega (arith, r.2)) in
        omega (arith, r.2, areas-apart inside bs e r.0 r.1 (inside-within k.0 k.1 r.0 r.1 k.2))),
  )

  module _ (apart : overlaps bs ≡ false) where
    -- no cell is marked by two
    marked-once : (a b : ℤ) → markers bs a b ≤ 1
    unfolding overlaps markers
    marked-once a b = go (any (inside a b) bs) refl
      where
        go : (t : Bool) → any (inside a b) bs ≡ t → count (inside a b) bs ≤ 1
        go true e = let k = any-find (inside a b) bs e in areas-apart inside bs apart a b (inside-within k.0 k.1 a b k.2)
        go false e = omega (arith, count_none (inside a b) bs e)

    -- THE PROMISE: the corners handed on mark exactly the cells that the boundaries mark
    pub handed-exactly : (a b : ℤ) → marks (handed_on bs) a b ≡ any (inside a b) bs
    unfolding markers
    handed-exactly a b = handed-marks bs s a b ∙ once-odd (inside a b) bs (marked-once a b)

    -- each such cell is marked by one boundary
    pub handed-once : (a b : ℤ) → markers bs a b ≡ bit (marks (handed_on bs) a b)
    unfolding markers
    handed-once a b = go (any (inside a b) bs) refl ∙ ap bit (sym (handed-exactly a b))
      where
        go : (t : Bool) → any (inside a b) bs ≡ t → count (inside a b) bs ≡ bit (any (inside a b) bs)
        go true e = let k = any-find (inside a b) bs e in rw e (omega (arith, count-in (inside a b) k.1 k.2, marked-once a b))
        go false e = rw e (count_none (inside a b) bs e)
