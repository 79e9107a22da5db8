-- `sweep::live_at` meets its contract.
use borrow.Author.Rules.{rules}
use native.Mathlib.Omega.{arith}
use Rattle.plane.proofs.Arrays.{four-numbers}
use Rattle.sweep.proofs.live_at.Goals as goal

pub returns : goal.returns
returns c = let s = c.args in rw (four-numbers _ s.work.now s.i _ (omega (arith, c.requires))) (search rules)
