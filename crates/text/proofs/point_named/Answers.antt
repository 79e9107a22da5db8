-- `text::point_named` meets its contract.
use Rattle.std.proofs.Common.{◌∙◌}
use Rattle.text.specs.Program.{offender}
use Rattle.text.proofs.point_named.Goals as goal

pub returns-then-names_one : goal.returns-then-names_one
unfolding offender
returns-then-names_one c = c.point_at.ensures ∙ rw (← c.from.ensures, ← c.if-names_one.ensures)

pub returns : goal.returns
unfolding offender
returns c = c.origin.ensures ∙ rw (← c.from.ensures, ← c.if-names_one.ensures)
