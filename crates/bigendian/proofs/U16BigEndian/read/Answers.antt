-- `bigendian::U16BigEndian::read` meets its contract.
use Rattle.std.proofs.Common.{◌∙◌}
use Rattle.bigendian.proofs.Places.{from-two}
use Rattle.bigendian.proofs.U16BigEndian.read.Goals as goal

pub returns : goal.returns
returns c = c.from_be_bytes.ensures ∙ from-two c.bytes_at.result ∙ c.bytes_at.ensures
