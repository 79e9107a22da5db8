-- `numerals::put_number` meets its contract: a number of 64 bits has at most twenty digits.
use Rattle.std.proofs.Common.{arith}
use Rattle.numerals.proofs.Printing.{decimal-length}
use Rattle.numerals.proofs.put_number.Goals as goal

pub spell-k-requires : goal.spell-k-requires
spell-k-requires c = decimal-length 19 c.args.n (omega arith)
