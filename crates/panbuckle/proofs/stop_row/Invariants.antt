-- The invariant of `panbuckle::stop_row`: no row below low's has an odd number of points left of K.
use Prim.Native.Nat.{◌+◌, ◌-◌}
use Rattle.plane.specs.Words.{points_of}
use Rattle.plane.proofs.Order.{up, dn}
use Rattle.panbuckle.proofs.StopRow.{EvenBelow}
use Rattle.panbuckle.proofs.stop_row.Given as goal

abbrev pub invariant-loop-low : goal.invariant-loop-low
invariant-loop-low l = EvenBelow l.k l.low (points_of l.points)

abbrev pub decreases-loop-low : goal.decreases-loop-low
decreases-loop-low l = (up l.over.y + dn l.low.y) - (up l.low.y + dn l.over.y)
