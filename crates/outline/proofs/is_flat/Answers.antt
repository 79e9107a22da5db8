-- `outline::is_flat` meets its contract.
use borrow.Author.Rules.{rules}
use Rattle.plane.specs.Words.{flat}
use Rattle.outline.proofs.is_flat.Goals as goal

pub returns-then-r-lt1 : goal.returns-then-r-lt1
unfolding flat
returns-then-r-lt1 c = search rules

pub returns-else-r-lt1 : goal.returns-else-r-lt1
unfolding flat
returns-else-r-lt1 c = search rules
