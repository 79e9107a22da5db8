-- The test of `panbuckle::toggled` meets its contract.
use Rattle.std.proofs.Common.{rules}
use Rattle.plane.specs.Words.{same, eq_z}
use Rattle.panbuckle.proofs.fn.toggled.position.Goals as goal

pub returns : goal.returns
unfolding same eq_z
returns c = search rules
