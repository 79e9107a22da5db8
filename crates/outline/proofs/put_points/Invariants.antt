-- The invariant of `outline::put_points`: the points of the first i keys are written.
use mathlib.Core.Path.{◌≡◌}
use lib.ListN.{take}
use Rattle.plane.specs.Lists.{at_start}
use Rattle.plane.specs.Words.{flat_points}
use Rattle.outline.specs.Inner.{points_of_keys}
use Rattle.outline.proofs.put_points.Given as goal

abbrev pub invariant-loop-i : goal.invariant-loop-i
invariant-loop-i l = l.points ≡ at_start (flat_points (points_of_keys (take l.i l.keys))) l.initial.points
