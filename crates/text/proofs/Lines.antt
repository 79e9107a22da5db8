-- The lines that are printed, as the pieces in which they are written.
use Prim.Native.Nat.{ℕ, ◌^◌, ◌≤◌, ◌<◌}
use native.Mathlib.Omega.{arith}
use lib.ListN.{length, length-append}
use Rattle.numerals.proofs.Printing.{decimal-length}
use Rattle.text.specs.Program.{refusal_line}

-- a refusal's line is short
pub refusal-length : (number place : ℕ) → number < 10 ^ 20 → place < 10 ^ 20 → length (refusal_line number place) ≤ 64
unfolding refusal_line
refusal-length number place h i =
    simp length-append (omega (arith, decimal-length 19 number h, decimal-length 19 place i))
