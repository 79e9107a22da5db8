-- `plane::comes_before` meets its contract.
use Rattle.std.proofs.Common.{rules}
use Rattle.plane.specs.Words.{eq_z, before}
use Rattle.plane.proofs.comes_before.Goals as goal

pub returns : goal.returns
unfolding before eq_z
returns c = search rules
