-- `drawing::add_list` meets its contract.
use Rattle.drawing.specs.Picture.{list_part}
use Rattle.drawing.proofs.Pieces.{both}
use Rattle.drawing.proofs.add_list.Goals as goal

pub returns : goal.returns
unfolding list_part
returns c = both c.add_head.ensures (both c.add_blocks.ensures c.add.ensures)
