-- `numerals::put_signed` meets its contract: a number of 32 bits has at most ten digits.
use Rattle.std.proofs.Common.{◌+◌, ◌≡◌, ℤ, pos, negsuc, ◌≤ℤ◌, ◌<ℤ◌, nat_abs, [], ◌∷◌, ◌++◌, append-nil, take, refl, arith}
use lib.Seq.{take-append_seam}
use native.Mathlib.Numerals.{add-one}
use Rattle.std.proofs.lemmas.Int.{ints}
use Rattle.plane.proofs.Bits.{back}
use Rattle.numerals.specs.Numerals.{minus, decimal, signed}
use Rattle.numerals.proofs.Printing.{decimal-length}
use Rattle.numerals.proofs.put_signed.Goals as goal

-- a number below 0 is printed with a minus, another without
without-minus : (z : ℤ) → pos 0 ≤ℤ z → signed z ≡ decimal (nat_abs z)
unfolding signed
without-minus (pos n) h = refl
without-minus (negsuc n) h = absurd (omega (arith, ints))

with-minus : (z : ℤ) → z <ℤ pos 0 → signed z ≡ minus ∷ decimal (nat_abs z)
unfolding signed
with-minus (pos n) h = absurd (omega (arith, ints))
with-minus (negsuc n) h = refl

pub returns-then-z-ge0 : goal.returns-then-z-ge0
returns-then-z-ge0 c =
    let z = c.args.z in
    let b = back z (omega arith) in
    rw (without-minus z (grind (arith, ints))) (rw (c.from-n.ensures, c.unsigned_abs.ensures.value, b) at c.put_number.ensures)

pub spell-k-requires : goal.spell-k-requires
spell-k-requires c = decimal-length 9 _ (omega arith)

pub returns : goal.returns
returns c =
    let z = c.args.z in
    let b = back z (omega arith) in
    let d : take (c.spell-k.result + 1) (minus ∷ (c.spell-k.new.out ++ [])) ≡ minus ∷ decimal c.from-n.result = rw (append-nil c.spell-k.new.out, add-one c.spell-k.result, c.spell-k.ensures.value, c.spell-k.ensures.out_after, take-append_seam (decimal c.from-n.result)) in
    rw (with-minus z (grind (arith, ints))) (rw (d, c.from-n.ensures, c.unsigned_abs.ensures.value, b) at c.put_bytes.ensures)
