-- `text::names_one` meets its contract.
use Rattle.std.proofs.Common.{rules}
use Rattle.text.specs.Program.{names_one}
use Rattle.text.proofs.names_one.Goals as goal

pub returns-then-number-from-2 : goal.returns-then-number-from-2
unfolding names_one
returns-then-number-from-2 c = search rules

pub returns-else-number-from-2 : goal.returns-else-number-from-2
unfolding names_one
returns-else-number-from-2 c = search rules
