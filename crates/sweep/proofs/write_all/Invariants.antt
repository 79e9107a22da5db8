-- The invariant of `sweep::write_all`: the rectangles given are put at their places; the measure is what is to come of the sweep.
use Rattle.sweep.specs.Inner.{swept, to_come}
use Rattle.sweep.proofs.Making.{Writing}
use Rattle.sweep.proofs.write_all.Given as goal

abbrev pub invariant-loop-rect : goal.invariant-loop-rect
invariant-loop-rect l = Writing (swept l.points) l.initial.work l.initial.rects l.work l.rects l.z

abbrev pub decreases-loop-rect : goal.decreases-loop-rect
decreases-loop-rect l = to_come (swept l.points) l.z
