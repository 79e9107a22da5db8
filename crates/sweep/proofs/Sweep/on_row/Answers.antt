-- `sweep::Sweep::on_row` meets its contract.
use native.Mathlib.Omega.{arith}
use mathlib.Core.Bool.{true, false}
use mathlib.Core.Path.{◌≡◌, refl, sym, ◌∙◌}
use borrow.Author.Tests.{eq-eqb, ne_eqb}
use Rattle.plane.specs.Words.{eq_z}
use Rattle.plane.proofs.Bits.{eq-bits, back}
use Rattle.sweep.proofs.Sweep.on_row.Goals as goal

pub returns-in-Some : goal.returns-in-Some
returns-in-Some c =
    let p = c.in-Some.p in
    let on : eq_z p.y c.args.self.now.row ≡ true = sym (eq-bits p.y c.args.self.now.row (omega arith) (omega arith)) ∙ eq-eqb _ _ c.if-p-self.true in
    rw (c.in-Some.is, on) (back p.x (omega arith))

pub returns-in_default : goal.returns-in_default
returns-in_default c =
    let p = c.in-Some.p in
    let off : eq_z p.y c.args.self.now.row ≡ false = sym (eq-bits p.y c.args.self.now.row (omega arith) (omega arith)) ∙ ne_eqb _ _ c.if-p-self.false in
    rw (c.in-Some.is, off) refl
