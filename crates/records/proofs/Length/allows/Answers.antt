-- `records::Length::allows` meets its contract.
use Rattle.std.proofs.Common.{◌≡◌, ◌%◌}
use borrow.Author.Tests.{eqb-true, eq-eqb, le-leb, lt-leb}
use Rattle.plane.proofs.Bools.{iff}
use Rattle.records.specs.Format.{fits_length}
use lib.Dec.{eqb}
use Rattle.records.proofs.Length.allows.Goals as goal

pub returns-in-Exactly : goal.returns-in-Exactly
unfolding fits_length
returns-in-Exactly c = rw (c.in-Exactly.is, c.from.ensures)

pub returns-then-from-bytes : goal.returns-then-from-bytes
unfolding fits_length
returns-then-from-bytes c =
    let n = c.args.bytes in
    let least = c.in-Units.least in
    let size = c.in-Units.size in
    let e : c.from-then-from-bytes.result ≡ size = c.from-then-from-bytes.ensures in
    rw (c.in-Units.is, le-leb least n (rw (← c.from-in-Units.ensures) c.if-from-bytes.true), ← e) (iff _ (eqb (n % c.from-then-from-bytes.result) 0) (λ d. eq-eqb _ 0 (c.is_multiple_of.ensures.0 d)) (λ d. c.is_multiple_of.ensures.1 (eqb-true _ 0 d)))

pub returns-else-from-bytes : goal.returns-else-from-bytes
unfolding fits_length
returns-else-from-bytes c =
    let n = c.args.bytes in
    rw (c.in-Units.is, ← c.from-in-Units.ensures, lt-leb c.from-in-Units.result n c.if-from-bytes.false)
