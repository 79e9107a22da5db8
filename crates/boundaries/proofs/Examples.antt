-- Small boundaries, worked out: the definitions compute, and two bars that cross overlap though they share no corner.
use mathlib.Core.Path.{◌≡◌, refl}
use Prim.Native.Nat.{ℕ}
use native.Mathlib.Omega.{arith}
use mathlib.Core.Bool.{true, false, not, xor}
use mathlib.Core.List.{List, [], ◌∷◌, Memᴰ as In}
use lib.IntN.{pos}
use Rattle.plane.specs.declared.Point.{Point}
use Rattle.plane.specs.Lists.{any, count, odd}
use Rattle.plane.specs.Words.{eq_z, in_range, point_in_range, same}
use Rattle.plane.proofs.Bools.{by, clash}
use Rattle.plane.proofs.Sums.{any-in}
use Rattle.boundaries.specs.Boundary.{edges_of, horizontal, vertical, slanted, last_or, is_open, spans, meets, inside, merged_after, merged, turns, corners_after, before_last, boundary_corners, handed_on, markers, overlaps}
use Rattle.boundaries.proofs.Handed.{Shapes, shapes-none, shapes-with, overlaps-exactly}

-- the point (x, y)
abbrev at : (x y : ℕ) → Point
at x y = record { x = pos x; y = pos y }

-- a path that crosses itself, with equal neighbours, also where it closes, and a spike
abbrev eight : List Point
eight = at 0 0 ∷ at 0 0 ∷ at 9 0 ∷ at 2 0 ∷ at 2 4 ∷ at 4 4 ∷ at 4 2 ∷ at 0 2 ∷ at 0 0 ∷ at 0 0 ∷ []

-- its corners in file order, the closing vertex as the first
pub eight-corners : boundary_corners eight ≡ at 0 0 ∷ at 2 0 ∷ at 2 4 ∷ at 4 4 ∷ at 4 2 ∷ at 0 2 ∷ []
unfolding boundary_corners corners_after merged merged_after before_last turns horizontal vertical eq_z same
eight-corners = refl

-- it marks (3, 3) and (1, 1), and not (3, 1)
pub eight-inside : (inside (pos 3) (pos 3) eight ≡ true) × (inside (pos 1) (pos 1) eight ≡ true) × (inside (pos 3) (pos 1) eight ≡ false)
unfolding inside edges_of meets spans vertical eq_z odd xor
eight-inside = (refl, refl, refl)

-- two bars that cross
abbrev bars : List (List Point)
bars = (at 3 1 ∷ at 5 1 ∷ at 5 5 ∷ at 3 5 ∷ at 3 1 ∷ []) ∷ (at 0 2 ∷ at 0 4 ∷ at 9 4 ∷ at 9 2 ∷ at 0 2 ∷ []) ∷ []

bars-shapes : Shapes bars
unfolding is_open last_or slanted edges_of horizontal vertical any same eq_z
bars-shapes = shapes-with refl refl (shapes-with refl refl shapes-none)

bars-within : (p : Point) → In p (handed_on bars) → point_in_range p ≡ true
unfolding handed_on boundary_corners corners_after merged merged_after before_last turns horizontal vertical any same eq_z point_in_range in_range
bars-within p m = by (point_in_range p) (λ e. clash (any-in (λ q. not (point_in_range q)) m (rw e)) refl)

-- both mark (3, 2)
pub bars-overlap : overlaps bars ≡ true
unfolding markers count inside edges_of meets spans vertical eq_z odd xor
bars-overlap = (overlaps-exactly bars bars-shapes bars-within).1 (pos 3, pos 2, omega arith)
