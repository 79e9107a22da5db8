-- `bigendian::I16BigEndian::read` meets its contract.
use Rattle.std.proofs.Common.{arith}
use Rattle.bigendian.proofs.Places.{signed-16}
use Rattle.bigendian.proofs.I16BigEndian.read.Goals as goal

pub returns : goal.returns
returns c = rw (← c.read.ensures, c.cast_signed.ensures) (signed-16 c.read.result (omega arith))
