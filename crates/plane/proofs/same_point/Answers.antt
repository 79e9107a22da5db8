-- `plane::same_point` meets its contract.
use Rattle.std.proofs.Common.{rules}
use Rattle.plane.specs.Words.{eq_z, same}
use Rattle.plane.proofs.same_point.Goals as goal

pub returns : goal.returns
unfolding same eq_z
returns c = search rules
