-- The invariant of `panbuckle::OddRows::gather`: the table has the rows with an odd number of points beside k among those passed.
use mathlib.Core.Path.{◌≡◌}
use mathlib.Core.List.{◌++◌}
use Rattle.plane.specs.Words.{points_of}
use Rattle.panbuckle.specs.Inner.{OddBeside, Between}
use Rattle.panbuckle.proofs.OddRows.gather.Given as goal

abbrev pub invariant-loop-p : goal.invariant-loop-p
invariant-loop-p l = Between l.low l.fn.m l.self.end × OddBeside l.k l.low l.self.end l.yielded l.self.rows × (l.yielded ++ points_of l.p-iterator.rest.now ≡ points_of l.points)
