-- The invariant of `reading::write_points`: these bytes are left after so many lines, whose points are written.
use mathlib.Core.Path.{◌≡◌}
use lib.ListN.{length, take}
use Rattle.plane.specs.Lists.{at_start}
use Rattle.plane.specs.Words.{flat_points}
use Rattle.reading.specs.Lines.{lines_of, points_in}
use Rattle.reading.proofs.Lines.{Reached}
use Rattle.reading.proofs.write_points.Given as goal

abbrev pub invariant-loop-point : goal.invariant-loop-point
invariant-loop-point l =
    let ps = points_in (take l.i (lines_of l.text)) in
    Reached l.text l.rest l.i × (length ps ≡ l.i) × (length l.points ≡ length l.initial.points) × (l.points ≡ at_start (flat_points ps) l.initial.points)

abbrev pub decreases-loop-point : goal.decreases-loop-point
decreases-loop-point l = length l.rest
