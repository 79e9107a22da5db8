-- `drawing::add_mark` meets its contract.
use Rattle.drawing.specs.Picture.{mark_of}
use Rattle.drawing.proofs.add_mark.Goals as goal

pub returns : goal.returns
unfolding mark_of
returns c = rw (c.column-x.ensures, c.line-y.ensures) at c.fill.ensures
