-- The areas of boundaries, added while the sum is at most the cells of the range, tell OVERLAP as their whole sum does.
use mathlib.Core.Path.{◌≡◌, refl, sym, ap, ◌∙◌}
use Prim.Native.Nat.{ℕ, ◌+◌, ◌≤◌}
use native.Mathlib.Omega.{arith}
use mathlib.Core.Bool.{Bool, true, false, cond}
use mathlib.Core.List.{List, [], ◌∷◌}
use lib.Dec.{ltb, leb}
use borrow.Author.Tests.{leb-false, lt-ltb}
use Rattle.plane.specs.declared.Point.{Point}
use Rattle.plane.specs.Lists.{sum}
use Rattle.plane.specs.Words.{marks, cells, most_cells}
use Rattle.plane.proofs.Grid.{cells-most}
use Rattle.boundaries.specs.Boundary.{handed_on, overlaps}
use Rattle.boundaries.specs.Inner.{add_capped}
use Rattle.boundaries.proofs.Handed.{corners_area, Shapes, overlaps-by-area}

-- the areas of boundaries added to a sum, in file order
unfoldable pub areas_from : (s : ℕ) → List (List Point) → ℕ
areas_from s [] = s
areas_from s (vs ∷ bs) = areas_from (add_capped s (corners_area vs)) bs

-- a number that is not over the cells of the range is below the capped sum just if it is below the whole one
capped-tells : (n s : ℕ) (bs : List (List Point)) → n ≤ most_cells → ltb n (areas_from s bs) ≡ ltb n (s + sum corners_area bs)
unfolding areas_from add_capped sum
capped-tells n s [] h = ap (ltb n) (omega arith)
capped-tells n s (vs ∷ bs) h = go (leb s most_cells) refl (capped-tells n (s + corners_area vs) bs h) (capped-tells n s bs h)
  where
    go : (t : Bool) → leb s most_cells ≡ t → ltb n (areas_from (s + corners_area vs) bs) ≡ ltb n (s + corners_area vs + sum corners_area bs) → ltb n (areas_from s bs) ≡ ltb n (s + sum corners_area bs) → ltb n (areas_from (cond t (s + corners_area vs) s) bs) ≡ ltb n (s + (corners_area vs + sum corners_area bs))
    go true e added kept = added ∙ ap (ltb n) (omega arith)
    go false e added kept = let m = leb-false s most_cells e in kept ∙ lt-ltb n (s + sum corners_area bs) (omega arith) ∙ sym (lt-ltb n (s + (corners_area vs + sum corners_area bs)) (omega arith))

-- OVERLAP exactly when the area of all corners is below the capped sum of the boundaries' areas
pub overlaps-capped : (bs : List (List Point)) → Shapes bs → overlaps bs ≡ ltb (cells (marks (handed_on bs))) (areas_from 0 bs)
overlaps-capped bs s = overlaps-by-area bs s ∙ sym (capped-tells (cells (marks (handed_on bs))) 0 bs (cells-most (marks (handed_on bs))) ∙ ap (ltb (cells (marks (handed_on bs)))) (omega arith))
