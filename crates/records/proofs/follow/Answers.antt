-- `records::follow` meets its contract.
use Rattle.std.proofs.Common.{suc, ◌-◌, ◌≡◌, ◌<◌, refl, sym, ap, ◌∙◌, arith}
use Rattle.records.specs.Format.{follow}
use Rattle.records.specs.Inner.{row_of}
use Rattle.records.proofs.Rows.{follow-none, follow-past, follow-taken, follow-left, follow-ended}
use Rattle.records.proofs.follow.Goals as goal
use Rattle.records.proofs.follow.Goals.{In_ok-row, then-at-eq0-via-then-at-eq0, then-at-eq0-via-else-at-eq0+then-from-gt81}

pub returns-then-at-eq0 : goal.returns-then-at-eq0
returns-then-at-eq0 c =
    elim c.then-at-eq0.branch [
      | then-at-eq0-via-then-at-eq0 w ↦ rw (w.if-at-eq0.true, follow-none)
      | then-at-eq0-via-else-at-eq0+then-from-gt81 w ↦ rw (follow-past c.args.at c.args.kind (omega arith))
    ]

pub returns-then-expected-kind : goal.returns-then-expected-kind
returns-then-expected-kind c =
    let l = c.loop-rows in
    let k = c.from-in-loop-rows.result - 1 in
    let p : suc k ≡ l.row = omega arith in
    follow-taken k c.args.kind (omega arith) refl c.if-expected-kind.true ∙ ap row_of (rw p l.invariant.2)

pub returns-in_err-row : goal.returns-in_err-row
returns-in_err-row c =
    let l = c.loop-rows in
    let k = c.from-in-loop-rows.result - 1 in
    let p : suc k ≡ l.row = omega arith in
    rw c.from_residual.ensures (ap row_of (sym (follow-ended k c.args.kind (omega arith) refl c.if-expected-kind.false c.in_err-row.was) ∙ rw p l.invariant.2))

-- the row that is tried next
next : (c : In_ok-row) → (follow c.in_ok-row.row c.args.kind ≡ follow c.loop-rows.row c.args.kind) × (c.loop-rows.row < c.in_ok-row.row) × (c.in_ok-row.row < 82)
next c =
    let l = c.loop-rows in
    let k = c.from-in-loop-rows.result - 1 in
    let p : suc k ≡ l.row = omega arith in
    rw (sym p) (follow-left k c.args.kind (omega arith) refl c.if-expected-kind.false c.in_ok-row.row c.in_ok-row.was)

pub loop-rows-preserved : goal.loop-rows-preserved
loop-rows-preserved c = let n = next c in (omega (arith, n.1), n.2, n.0 ∙ c.loop-rows.invariant.2)

pub loop-rows-smaller : goal.loop-rows-smaller
loop-rows-smaller c = let n = next c in omega (arith, n.1, n.2)
