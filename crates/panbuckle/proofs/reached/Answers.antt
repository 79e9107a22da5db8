-- `panbuckle::reached` meets its contract.
use borrow.Author.Rules.{rules}
use Rattle.rule.specs.Rule.{rect_of}
use Rattle.panbuckle.proofs.reached.Goals as goal

pub returns : goal.returns
unfolding rect_of
returns c = search rules
