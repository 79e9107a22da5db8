-- What the walk gathers, boundary by boundary: how many corners, the cells that each boundary marks, and the array of the corners.
use mathlib.Core.Path.{◌≡◌, refl, sym, ap, ap₂, ◌∙◌}
use Prim.Native.Nat.{ℕ, ◌+◌, ◌*◌, ◌≤◌}
use native.Mathlib.Omega.{arith}
use mathlib.Core.Bool.{Bool, true, false, cond}
use mathlib.Core.List.{List, ◌++◌}
use lib.ListN.{length, take, drop, length-append}
use lib.IntN.{ℤ}
use lib.Dec.{leb}
use borrow.Author.Tests.{le-leb, lt-leb, leb-true}
use Rattle.plane.specs.declared.Point.{Point}
use Rattle.plane.specs.Words.{most_points, points_of, most_cells}
use Rattle.plane.proofs.Arrays.{points-flat}
use Rattle.boundaries.specs.Boundary.{boundary_corners, handed_on}
use Rattle.boundaries.specs.Inner.{add_capped}
use Rattle.gdsii.specs.Walk.{Outcome, stopped, walked, before}
use Rattle.gdsii.specs.Call.{scratch_size}
use Rattle.gdsii.specs.Inner.{Stopped, Whole, marked_in, area_with, area_from, put_points, gathered, Filled}
use Rattle.gdsii.proofs.Corners.{put-points-length, put-points-then, put-points-there}

-- ---- The sum of the areas

-- corners without places add nothing
pub area-many : (n k area : ℕ) (ps : List Point) → most_points + 1 ≤ n + k → area_with n k area ps ≡ area
unfolding area_with
area-many n k area ps h = rw (lt-leb (n + k) most_points (omega arith))

-- nor do others, once the sum is over the most cells
pub area-over : (n k area : ℕ) (ps : List Point) → most_cells + 1 ≤ area → area_with n k area ps ≡ area
unfolding area_with add_capped
area-over n k area ps h = rw (lt-leb area most_cells (omega arith)) (go (leb (n + k) most_points))
  where
    go : (t : Bool) → cond t area area ≡ area
    go true = refl
    go false = refl

-- otherwise they add the cells that they mark
pub area-added : (n k area : ℕ) (ps : List Point) → n + k ≤ most_points → area ≤ most_cells → area_with n k area ps ≡ area + marked_in ps
unfolding area_with add_capped
area-added n k area ps h g = rw (le-leb (n + k) most_points h, le-leb area most_cells g)

-- of corners that were just put into the array
pub area-put : (a : List ℤ) (n area : ℕ) (ps : List Point) → length a ≡ scratch_size → area_with n (length ps) area (points_of (take (2 * length ps) (drop (2 * n) (put_points a n ps)))) ≡ area_with n (length ps) area ps
unfolding area_with
area-put a n area ps e = go (leb (n + length ps) most_points) refl
  where
    go : (t : Bool) → leb (n + length ps) most_points ≡ t → cond t (add_capped area (marked_in (points_of (take (2 * length ps) (drop (2 * n) (put_points a n ps)))))) area ≡ cond t (add_capped area (marked_in ps)) area
    go true h =
        let fits = leb-true (n + length ps) most_points h in
        ap (λ (qs : List Point). add_capped area (marked_in qs)) (ap points_of (put-points-there a n ps (omega arith)) ∙ points-flat ps)
    go false h = refl

-- ---- One boundary more

pub gathered_next : (vs : List Point) (o : Outcome) (n area : ℕ) → let ps = boundary_corners vs in gathered o (n + length ps) (area_with n (length ps) area ps) ≡ gathered (before vs o) n area
unfolding area_from handed_on
gathered_next vs (stopped k p) n area = refl
gathered_next vs (walked f bs) n area =
    let ps = boundary_corners vs in
    let e : n + length ps + length (handed_on bs) ≡ n + length (ps ++ handed_on bs) = omega (arith, length-append ps (handed_on bs)) in
    ap (λ (m : ℕ). Whole f m (area_from (n + length ps) (area_with n (length ps) area ps) bs)) e

pub filled_next : (vs : List Point) (o : Outcome) (n : ℕ) (a after : List ℤ) → let ps = boundary_corners vs in Filled o (n + length ps) (put_points a n ps) after → Filled (before vs o) n a after
unfolding handed_on
filled_next vs (stopped k p) n a after h = h ∙ put-points-length a n (boundary_corners vs)
filled_next vs (walked f bs) n a after h = h ∙ put-points-then a n (boundary_corners vs) (handed_on bs)

-- ---- What was gathered tells what the walk came to

pub stopped-says : (o : Outcome) {k p : ℕ} → gathered o 0 0 ≡ Stopped k p → o ≡ stopped k p
stopped-says (stopped j q) {k} {p} e = let d : j ≡ k = cc in let f : q ≡ p = cc in ap₂ stopped d f
stopped-says (walked f bs) e = let z : ◌≡◌ {A = ℕ} 0 1 = cc in absurd (omega arith)

-- a walk to the end, with its count and its sum
pub record Ended (o : Outcome) (found : Bool) (n area : ℕ) : Type 0 where
  pub boundaries : List (List Point)
  pub outcome : o ≡ walked found boundaries
  pub count : n ≡ length (handed_on boundaries)
  pub sum : area ≡ area_from 0 0 boundaries

pub whole_says : (o : Outcome) {f : Bool} {n area : ℕ} → gathered o 0 0 ≡ Whole f n area → Ended o f n area
whole_says (stopped k p) e = let z : ◌≡◌ {A = ℕ} 0 1 = cc in absurd (omega arith)
whole_says (walked g bs) {f} {n} {area} e =
    let d : g ≡ f = cc in
    let m : 0 + length (handed_on bs) ≡ n = cc in
    let s : area_from 0 0 bs ≡ area = cc in
    record { boundaries = bs; outcome = ap (λ (b : Bool). walked b bs) d; count = omega arith; sum = sym s }
