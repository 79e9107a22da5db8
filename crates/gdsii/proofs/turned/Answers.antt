-- `gdsii::turned` meets its contract.
use mathlib.Core.Path.{sym, ◌∙◌}
use borrow.Author.Rules.{rules}
use Rattle.plane.proofs.Bits.{eq-bits}
use Rattle.boundaries.specs.Boundary.{vertical}
use Rattle.gdsii.proofs.Shapes.{equal-points}
use Rattle.gdsii.proofs.turned.Goals as goal

pub returns-then-eq : goal.returns-then-eq
returns-then-eq c = rw (sym (equal-points c.args.p c.args.q) ∙ sym c.eq.ensures ∙ c.if-eq.true)

pub returns-else-eq : goal.returns-else-eq
unfolding vertical
returns-else-eq c = rw (sym (equal-points c.args.p c.args.q) ∙ sym c.eq.ensures ∙ c.if-eq.false) (search (rules, eq-bits))
