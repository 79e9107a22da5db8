-- `drawing::add_offender` meets its contract: a mark, where a point is named.
use mathlib.Core.Path.{ap, sym, ◌∙◌}
use Rattle.plane.proofs.Arrays.{length-points}
use Rattle.text.specs.Program.{names_one}
use Rattle.drawing.specs.Picture.{mark_part}
use Rattle.drawing.proofs.Pieces.{draws-nothing}
use Rattle.drawing.proofs.add_offender.Goals as goal

pub returns-then-names_one : goal.returns-then-names_one
unfolding mark_part
returns-then-names_one c =
    rw (c.in-Some.is, ap names_one (sym c.from.ensures) ∙ sym c.names_one.ensures ∙ c.if-names_one.true, length-points c.args.points.now) (rw c.radius_for.ensures.value at c.add_mark.ensures)

pub returns-else-names_one : goal.returns-else-names_one
unfolding mark_part
returns-else-names_one c = rw (c.in-Some.is, ap names_one (sym c.from.ensures) ∙ sym c.names_one.ensures ∙ c.if-names_one.false) (draws-nothing c.args.page.now)

pub returns-in_default : goal.returns-in_default
unfolding mark_part names_one
returns-in_default c = rw c.in_default.is (draws-nothing c.args.page.now)
