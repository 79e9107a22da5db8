-- `panbuckle::is_beside` meets its contract.
use borrow.Author.Rules.{rules}
use Rattle.panbuckle.specs.Inner.{beside}
use Rattle.panbuckle.proofs.is_beside.Goals as goal

pub returns-then-low-p : goal.returns-then-low-p
unfolding beside
returns-then-low-p c = search rules

pub returns-else-low-p : goal.returns-else-low-p
unfolding beside
returns-else-low-p c = search rules
