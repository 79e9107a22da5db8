-- `plane::PointPacked::at` meets its contract: past the items there is one of zeros.
use Rattle.std.proofs.Common.{rules, arith}
use Rattle.std.proofs.Math.ListN.{get_or-eq_default}
use Rattle.plane.specs.Words.{points_of, origin}
use Rattle.plane.proofs.Arrays.{point-numbers, length-points}
use Rattle.plane.proofs.PointPacked.at.Goals as goal

pub returns-then-i-numbers : goal.returns-then-i-numbers
returns-then-i-numbers c = search (rules, point-numbers)

pub returns : goal.returns
returns c = let a = c.args.numbers.now in search (rules, get_or-eq_default (points_of a) origin {n = c.args.i} (omega (arith, length-points a)))
