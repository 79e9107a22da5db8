-- `sweep::area_of` meets its contract.
use borrow.Author.Rules.{rules}
use Rattle.plane.specs.Words.{area_of}
use Rattle.sweep.proofs.area_of.Goals as goal

pub returns : goal.returns
unfolding area_of
returns c = search rules
