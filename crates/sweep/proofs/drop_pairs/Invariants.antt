-- The invariant of `sweep::drop_pairs`: of the places before i those that stand are at the start.
use Prim.Native.Nat.{◌-◌}
use lib.ListN.{length}
use Rattle.plane.specs.Words.{points_of}
use Rattle.plane.proofs.Pairs.{Drops}
use Rattle.sweep.specs.Inner.{same_place}
use Rattle.sweep.proofs.drop_pairs.Given as goal

abbrev pub invariant-loop-i : goal.invariant-loop-i
invariant-loop-i l = Drops (same_place (points_of l.given)) l.initial.order l.left l.i l.order

abbrev pub decreases-loop-i : goal.decreases-loop-i
decreases-loop-i l = length l.initial.order - l.i
