-- `numerals::number_of` meets its contract.
use Rattle.std.proofs.Common.{◌∙◌, arith}
use Rattle.std.proofs.lemmas.Int.{ints}
use Rattle.numerals.proofs.Reading.{number-plain, number-negative, plain-fits, negative-fits}
use Rattle.numerals.proofs.number_of.Goals as goal

pub returns-in_err-value_of-in-Some : goal.returns-in_err-value_of-in-Some
returns-in_err-value_of-in-Some c =
    let s = c.in-Some.ensures.cases in
    c.from_residual.ensures ∙ rw (number-negative c.args.bytes.now s.0, ← s.1, ← c.in_err-value_of-in-Some.ensures.value)

pub returns-in_err-value_of-in-None : goal.returns-in_err-value_of-in-None
returns-in_err-value_of-in-None c =
    c.from_residual-in_err-value_of-in-None.ensures ∙ rw (number-plain c.args.bytes.now c.in-None.ensures.cases, ← c.in_err-value_of-in-None.ensures.value)

pub returns-in_ok-value_of-in-Some : goal.returns-in_ok-value_of-in-Some
returns-in_ok-value_of-in-Some c =
    let s = c.in-Some.ensures.cases in
    let n = c.in_ok-value_of-in-Some.field-0 in
    c.ok.ensures.value ∙ negative-fits n _ (omega (arith, ints, c.in_ok-value_of-in-Some.ensures.bound)) c.try_from.result c.try_from.ensures ∙ rw (number-negative c.args.bytes.now s.0, ← s.1, ← c.in_ok-value_of-in-Some.ensures.value)

pub returns-in_ok-value_of-in-None : goal.returns-in_ok-value_of-in-None
returns-in_ok-value_of-in-None c =
    c.ok-in-None.ensures.value ∙ plain-fits c.in_ok-value_of-in-None.field-0 c.try_from-in-None.result c.try_from-in-None.ensures ∙ rw (number-plain c.args.bytes.now c.in-None.ensures.cases, ← c.in_ok-value_of-in-None.ensures.value)
