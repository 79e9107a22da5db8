-- `drawing::add_head` meets its contract.
use Rattle.drawing.specs.Picture.{head_of}
use Rattle.drawing.proofs.add_head.Goals as goal

pub returns : goal.returns
unfolding head_of
returns c = rw c.free_beside-left.ensures.value at c.fill.ensures
