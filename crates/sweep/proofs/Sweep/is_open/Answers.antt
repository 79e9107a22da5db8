-- `sweep::Sweep::is_open` meets its contract.
use native.Mathlib.Omega.{arith}
use mathlib.Core.Path.{ap}
use mathlib.Core.Bool.{not}
use lib.Dec.{lit<}
use lib.IntN.{pos}
use Rattle.plane.proofs.Bits.{eq-bits}
use Rattle.sweep.proofs.Sweep.is_open.Goals as goal

pub returns : goal.returns
returns c = ap not (eq-bits c.args.self.now.opened (pos 2_000_000_000) (omega arith) (lit< tt))
