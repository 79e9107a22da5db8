-- `bigendian::U32BigEndian::write` meets its contract.
use Rattle.bigendian.proofs.Places.{high-first}
use Rattle.bigendian.proofs.U32BigEndian.write.Goals as goal

pub returns : goal.returns
returns c = rw (← high-first, ← c.to_be_bytes.ensures) c.put_bytes.ensures
