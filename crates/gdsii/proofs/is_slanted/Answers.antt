-- `gdsii::is_slanted` meets its contract.
use borrow.Author.Rules.{rules}
use Rattle.boundaries.specs.Boundary.{horizontal, vertical}
use Rattle.plane.proofs.Bits.{eq-bits}
use Rattle.gdsii.proofs.is_slanted.Goals as goal

pub returns : goal.returns
unfolding horizontal vertical
returns c = search (rules, eq-bits)
