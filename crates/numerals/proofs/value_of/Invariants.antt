-- The invariant of `numerals::value_of`: the value so far and the bytes left have the value of all, and are digits just if all are.
use Prim.Native.Nat.{◌<◌, ◌^◌}
use mathlib.Core.Path.{◌≡◌}
use lib.ListN.{drop}
use Rattle.numerals.specs.Numerals.{are_digits, value_after}
use Rattle.numerals.proofs.value_of.Given as goal

abbrev pub invariant-loop-b : goal.invariant-loop-b
invariant-loop-b l = (l.value < 10 ^ l.b-index) × (value_after l.value (drop l.b-index l.digits) ≡ value_after 0 l.digits) × (are_digits (drop l.b-index l.digits) ≡ are_digits l.digits)
