-- `numerals::value_of` meets its contract.
use Rattle.std.proofs.Common.{◌≡◌, true, false, [], length, drop, get_or, sym, ◌∙◌, arith}
use native.Mathlib.Nat.{pow-suc}
use native.Mathlib.Numerals.{add-one}
use Rattle.std.proofs.lemmas.Bool.Decides.{nat_tests}
use lib.Seq.{drop-length}
use Rattle.numerals.specs.Numerals.{is_digit, are_digits, value_after}
use Rattle.numerals.proofs.Reading.{ascii-digit, digit-range, value-next, digits-next, value-some, value-unsized, value-undigits}
use Rattle.numerals.proofs.value_of.Goals as goal
use Rattle.numerals.proofs.value_of.Goals.{Then-not-is_ascii_digit}

pub returns-then-is_empty-clause-value : goal.returns-then-is_empty-clause-value
returns-then-is_empty-clause-value c = rw (value-unsized c.args.digits.now (λ p q. grind (arith, nat_tests)))

pub returns-then-not-is_ascii_digit-clause-value : goal.returns-then-not-is_ascii_digit-clause-value
returns-then-not-is_ascii_digit-clause-value c =
    let l = c.loop-b in
    let n = digits-next c.args.digits.now l.b-index c.loop-b-test.true in
    let d : is_digit (get_or c.args.digits.now l.b-index 0) ≡ false = rw (ascii-digit, c.if-not-is_ascii_digit.true) at (sym c.is_ascii_digit.ensures.value) in
    rw (value-undigits c.args.digits.now (sym l.invariant.2 ∙ n ∙ rw d))

pub loop-b-preserved : goal.loop-b-preserved
loop-b-preserved c =
    let l = c.loop-b in
    let n = digits-next c.args.digits.now l.b-index c.loop-b-test.true in
    let v = value-next c.args.digits.now l.b-index c.loop-b-test.true l.value in
    let d : is_digit (get_or c.args.digits.now l.b-index 0) ≡ true = rw (ascii-digit, c.if-not-is_ascii_digit.false) at (sym c.is_ascii_digit.ensures.value) in
    let r = digit-range _ d in
    (rw (add-one, pow-suc, c.from.ensures) (omega arith), rw c.from.ensures (sym v ∙ l.invariant.1), rw d at (sym n) ∙ l.invariant.2)

pub returns-clause-value : goal.returns-clause-value
unfolding value_after are_digits
returns-clause-value c =
    let b = c.args.digits.now in
    let e : c.loop-b.b-index ≡ length b = omega arith in
    let v = c.loop-b.invariant in
    let n : drop c.loop-b.b-index b ≡ [] = rw e (drop-length b) in
    rw (value-some b (grind (arith, nat_tests)) (omega arith) (sym v.2 ∙ rw n), ← v.1, n)
