-- `plane::raise` meets its contract: in 64 bits nothing wraps.
use native.Mathlib.Omega.{arith}
use mathlib.Core.Path.{◌≡◌}
use lib.IntN.{pos, ◌+ℤ◌}
use mir.Syntax.{w32, w64}
use mir.Val.{of_z, to_z}
use Rattle.plane.specs.Keys.{raised}
use Rattle.plane.proofs.Bits.{back, back-wide}
use Rattle.plane.proofs.Keys.{is-raised, raised-sum}
use Rattle.plane.proofs.raise.Goals as goal

module _ (s : goal.Start) where
  -- cast to 64 bits and raised by 2^31, the number is how far it is above the lowest
  sum : to_z w64 (of_z w64 (to_z w32 (of_z w32 s.args.z))) +ℤ pos 2_147_483_648 ≡ pos (raised s.args.z)
  sum = rw (back s.args.z (omega arith), back-wide s.args.z (omega arith)) (raised-sum s.args.z (is-raised s.args.z (omega arith)))

  -- and so are its bits
  bits : to_z w64 (of_z w64 (pos (raised s.args.z))) ≡ pos (raised s.args.z)
  bits = let l = is-raised s.args.z (omega arith) in back-wide (pos (raised s.args.z)) (omega arith)

pub returns-clause-value : goal.returns-clause-value
returns-clause-value c = rw (sum c, bits c)
