-- `panbuckle::is_right_of` meets its contract.
use borrow.Author.Rules.{rules}
use Rattle.plane.specs.Words.{eq_z, on_row}
use Rattle.rule.specs.Rule.{right_of}
use Rattle.panbuckle.proofs.is_right_of.Goals as goal

pub returns-then-p-k : goal.returns-then-p-k
unfolding right_of on_row eq_z
returns-then-p-k c = search rules

pub returns-else-p-k : goal.returns-else-p-k
unfolding right_of on_row eq_z
returns-else-p-k c = search rules
