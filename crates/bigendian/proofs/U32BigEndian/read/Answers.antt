-- `bigendian::U32BigEndian::read` meets its contract.
use Rattle.std.proofs.Common.{◌∙◌}
use Rattle.bigendian.proofs.Places.{from-four}
use Rattle.bigendian.proofs.U32BigEndian.read.Goals as goal

pub returns : goal.returns
returns c = c.from_be_bytes.ensures ∙ from-four c.bytes_at.result ∙ c.bytes_at.ensures
