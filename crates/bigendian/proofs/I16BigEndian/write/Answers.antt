-- `bigendian::I16BigEndian::write` meets its contract.
use Rattle.std.proofs.Common.{ap}
use Rattle.std.specs.Int.{w16, cast_unsigned}
use Rattle.std.proofs.lemmas.Int.{to_z-of_z}
use Rattle.bigendian.proofs.Places.{bits-16}
use Rattle.bigendian.proofs.I16BigEndian.write.Goals as goal

pub returns : goal.returns
returns c =
    let z = c.args.self in
    let same = ap (cast_unsigned w16) (to_z-of_z w16 z c.ranges.self) in
    rw (← bits-16 z, ← same, ← c.cast_unsigned.ensures) c.write.ensures
