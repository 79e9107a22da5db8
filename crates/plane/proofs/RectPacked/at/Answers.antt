-- `plane::RectPacked::at` meets its contract: past the items there is one of zeros.
use Rattle.std.proofs.Common.{rules, arith, pos}
use Rattle.std.proofs.Math.ListN.{get_or-eq_default}
use Rattle.plane.specs.Words.{rects_of}
use Rattle.plane.proofs.Arrays.{rect-numbers, length-rects}
use Rattle.plane.proofs.RectPacked.at.Goals as goal

pub returns-then-i-numbers : goal.returns-then-i-numbers
returns-then-i-numbers c = search (rules, rect-numbers)

pub returns : goal.returns
returns c = let a = c.args.numbers.now in search (rules, get_or-eq_default (rects_of a) (record { x = pos 0; y = pos 0; w = pos 0; h = pos 0 }) {n = c.args.i} (omega (arith, length-rects a)))
