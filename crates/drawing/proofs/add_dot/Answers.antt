-- `drawing::add_dot` meets its contract, for a dot that is filled and for a hollow one.
use Rattle.drawing.specs.Picture.{dot_of}
use Rattle.drawing.proofs.add_dot.Goals as goal
use Rattle.drawing.proofs.add_dot.Goals.{then-stands, else-stands}

pub returns : goal.returns
unfolding dot_of
returns c =
    elim c.if-stands.branch [
      | then-stands w ↦ rw w.if-stands.true (rw (w.template-is, c.column.ensures, c.line.ensures) at c.fill.ensures)
      | else-stands w ↦ rw w.if-stands.false (rw (w.template-is, c.column.ensures, c.line.ensures) at c.fill.ensures)
    ]
