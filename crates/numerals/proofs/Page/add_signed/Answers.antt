-- `numerals::Page::add_signed` meets its contract.
use Rattle.std.proofs.Common.{arith}
use Rattle.plane.proofs.Bits.{back}
use Rattle.numerals.specs.Numerals.{signed}
use Rattle.numerals.proofs.Putting.{put-within, put-added}
use Rattle.numerals.proofs.Page.add_signed.Goals as goal

pub invariant_of-self : goal.invariant_of-self
invariant_of-self g c =
    let p = rw (back c.args.z (omega arith)) at c.put_signed-self-inside.ensures in
    let h = put-within c.self.inside.room c.self.inside.len (signed c.args.z) p (omega arith) in
    omega arith

pub returns : goal.returns
returns g c =
    let p = rw (back c.args.z (omega arith)) at c.put_signed-self-inside.ensures in
    rw (← c.self.view_is) (put-added g.row.N c.self.inside.room c.self.inside.len (signed c.args.z) p c.self.told c.self.invariant)
