-- `bigendian::U64BigEndian::read` meets its contract.
use Rattle.std.proofs.Common.{◌∙◌}
use Rattle.bigendian.proofs.Places.{from-eight}
use Rattle.bigendian.proofs.U64BigEndian.read.Goals as goal

pub returns : goal.returns
returns c = c.from_be_bytes.ensures ∙ from-eight c.bytes_at.result ∙ c.bytes_at.ensures
