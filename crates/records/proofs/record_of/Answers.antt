-- `records::record_of` meets its contract.
use Rattle.std.proofs.Common.{sym, ◌∙◌, ◌≡◌, arith, Some, None}
use Rattle.entry.specs.declared.Reason.TheVariants.{Record as Malformed}
use Rattle.std.proofs.lemmas.Result.{err_from_is_err_and}
use Rattle.records.proofs.Heads.{whole-size, record-refused, record-unfit, record-misplaced, record-good}
use Rattle.records.proofs.record_of.Goals as goal

pub returns-in_err-size : goal.returns-in_err-size
returns-in_err-size c =
    let p = err_from_is_err_and c.from_residual.result c.from_residual.ensures.1 in
    rw (p.1, p.2) (record-refused _ _ (sym c.head_of.ensures ∙ c.in_err-size.was))

pub overflow_sub-size : goal.overflow_sub-size
overflow_sub-size c = (whole-size _ (sym c.head_of.ensures ∙ c.in_ok-size.was)).0

pub returns-then-not-fits : goal.returns-then-not-fits
returns-then-not-fits c = record-unfit _ _ _ (sym c.head_of.ensures ∙ c.in_ok-size.was) (sym c.fits.ensures ∙ c.if-not-fits.true)

pub returns-in_err-next : goal.returns-in_err-next
returns-in_err-next c =
    let p = err_from_is_err_and c.from_residual-in_err-next.result c.from_residual-in_err-next.ensures.1 in
    let none : c.follow.result ≡ None = grind arith in
    let bad : c.in_err-next.field-0.0 ≡ Malformed = grind arith in
    rw (p.1, p.2, bad) (record-misplaced _ _ _ (sym c.head_of.ensures ∙ c.in_ok-size.was) (sym c.fits.ensures ∙ c.if-not-fits.false) (sym c.follow.ensures ∙ none))

pub returns : goal.returns
returns c =
    let some : c.follow.result ≡ Some c.in_ok-next.next = grind arith in
    record-good _ _ _ (sym c.head_of.ensures ∙ c.in_ok-size.was) (sym c.fits.ensures ∙ c.if-not-fits.false) _ (sym c.follow.ensures ∙ some)
