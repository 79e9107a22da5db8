-- `bigendian::I32BigEndian::read` meets its contract.
use Rattle.std.proofs.Common.{arith}
use Rattle.bigendian.proofs.Places.{signed-32}
use Rattle.bigendian.proofs.I32BigEndian.read.Goals as goal

pub returns : goal.returns
returns c = rw (← c.read.ensures, c.cast_signed.ensures) (signed-32 c.read.result (omega arith))
