-- `bigendian::I32BigEndian::write` meets its contract.
use Rattle.std.proofs.Common.{ap}
use Rattle.std.specs.Int.{w32, cast_unsigned}
use Rattle.std.proofs.lemmas.Int.{to_z-of_z}
use Rattle.bigendian.proofs.Places.{bits-32}
use Rattle.bigendian.proofs.I32BigEndian.write.Goals as goal

pub returns : goal.returns
returns c =
    let z = c.args.self in
    let same = ap (cast_unsigned w32) (to_z-of_z w32 z c.ranges.self) in
    rw (← bits-32 z, ← same, ← c.cast_unsigned.ensures) c.write.ensures
