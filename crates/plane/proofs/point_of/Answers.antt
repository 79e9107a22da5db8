-- `plane::point_of` meets its contract.
use native.Mathlib.Omega.{arith}
use Rattle.plane.specs.Keys.{point_of}
use Rattle.plane.proofs.Bits.{back}
use Rattle.plane.proofs.point_of.Goals as goal

pub returns : goal.returns
unfolding point_of
returns c = rw (back c.lower.result (omega arith), back c.lower-2.result (omega arith), c.lower.ensures, c.lower-2.ensures)
