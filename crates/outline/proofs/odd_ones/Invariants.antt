-- The invariant of `outline::odd_ones`: of the keys before i those that stand an odd number of times are at the start.
use Prim.Native.Nat.{◌≤◌}
use Rattle.outline.proofs.Cancelling.{Cancels}
use Rattle.outline.proofs.odd_ones.Given as goal

abbrev pub invariant-loop-i : goal.invariant-loop-i
invariant-loop-i l = (l.left ≤ l.i) × Cancels l.initial.keys l.left l.i l.keys
