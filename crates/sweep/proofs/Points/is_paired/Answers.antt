-- `sweep::Points::is_paired` meets its contract.
use borrow.Author.Rules.{rules}
use Rattle.plane.specs.Words.{eq_z, same}
use Rattle.sweep.proofs.Points.is_paired.Goals as goal

pub returns-then-i-self : goal.returns-then-i-self
unfolding same eq_z
returns-then-i-self c = search rules
