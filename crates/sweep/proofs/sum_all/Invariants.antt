-- The invariant of `sweep::sum_all`: the rectangles given are counted and summed; the measure is what is to come of the sweep.
use Rattle.sweep.specs.Inner.{swept, to_come}
use Rattle.sweep.proofs.Making.{Summing}
use Rattle.sweep.proofs.sum_all.Given as goal

abbrev pub invariant-loop-rect : goal.invariant-loop-rect
invariant-loop-rect l = Summing (swept l.points) l.initial.work l.work l.z l.count l.area

abbrev pub decreases-loop-rect : goal.decreases-loop-rect
decreases-loop-rect l = to_come (swept l.points) l.z
