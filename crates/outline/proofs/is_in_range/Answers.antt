-- `outline::is_in_range` meets its contract.
use borrow.Author.Rules.{rules}
use Rattle.plane.specs.Words.{rect_in_range}
use Rattle.plane.proofs.Bools.{and-swap}
use Rattle.outline.proofs.is_in_range.Goals as goal

pub returns-then-spans_range : goal.returns-then-spans_range
unfolding rect_in_range
returns-then-spans_range c = rw and-swap (search rules)

pub returns-else-spans_range : goal.returns-else-spans_range
unfolding rect_in_range
returns-else-spans_range c = rw and-swap (search rules)
