-- The invariant of `gdsii::put_corners`: the corners put so far and those of the rest are all of them.
use Prim.Native.Nat.{◌+◌, ◌≤◌}
use mathlib.Core.Path.{◌≡◌}
use lib.ListN.{length}
use Rattle.boundaries.specs.Inner.{corners_by}
use Rattle.gdsii.specs.Inner.{vertices_left, put_points}
use Rattle.gdsii.proofs.put_corners.Given as goal

abbrev pub invariant-loop-q : goal.invariant-loop-q
invariant-loop-q l =
    let left = vertices_left l.q-iterator in
    let all = vertices_left l.initial.q-iterator in
    (l.k + length left ≤ length all) × (l.k + length (corners_by l.d l.p left) ≡ length (corners_by l.initial.d l.initial.p all)) × (put_points l.a (l.n + l.k) (corners_by l.d l.p left) ≡ put_points l.initial.a l.n (corners_by l.initial.d l.initial.p all))
