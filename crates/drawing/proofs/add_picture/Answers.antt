-- `drawing::add_picture` meets its contract: its parts, one after the other, make the picture.
use Rattle.drawing.specs.Picture.{svg_of}
use Rattle.drawing.proofs.Pieces.{both}
use Rattle.drawing.proofs.add_picture.Goals as goal

pub returns : goal.returns
unfolding svg_of
returns c =
    rw (← c.of.ensures, ← c.of-view.ensures) (both c.add_list.ensures (both c.add_points.ensures (both c.add_offender.ensures (both c.add_answer.ensures c.add.ensures))))
