-- `drawing::add_sums` meets its contract.
use Rattle.drawing.specs.Picture.{list_says}
use Rattle.drawing.proofs.add_sums.Goals as goal

pub returns : goal.returns
unfolding list_says
returns c = rw c.free_beside.ensures.value at c.fill.ensures
