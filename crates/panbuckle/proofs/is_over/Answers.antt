-- `panbuckle::is_over` meets its contract.
use borrow.Author.Rules.{rules}
use Rattle.panbuckle.specs.Inner.{over_width}
use Rattle.panbuckle.proofs.is_over.Goals as goal

pub returns-then-k-p-2 : goal.returns-then-k-p-2
unfolding over_width
returns-then-k-p-2 c = search rules

pub returns-else-k-p-2 : goal.returns-else-k-p-2
unfolding over_width
returns-else-k-p-2 c = search rules
