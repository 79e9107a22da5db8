-- `drawing::add_block` meets its contract.
use Rattle.drawing.specs.Plan.{number_size}
use Rattle.drawing.specs.Picture.{block_of}
use Rattle.drawing.proofs.add_block.Goals as goal

pub returns : goal.returns
unfolding block_of number_size
returns c = rw (c.min-size.ensures, c.min.ensures, c.box_of-b.ensures.value) at c.fill.ensures
