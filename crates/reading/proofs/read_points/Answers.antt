-- `reading::read_points` meets its contract: each check refuses, or passes to the next.
use Rattle.std.proofs.Common.{ℕ, ◌/◌, ◌≡◌, cond, ltb, List, [], ◌∷◌, length, refl, ap, ◌∙◌, arith}
use borrow.Author.Tests.{lt-ltb, le-ltb}
use Rattle.std.proofs.lemmas.Result.{err_from_is_err_and}
use Rattle.plane.specs.Words.{most_points}
use Rattle.entry.specs.Checks.{verdict, accepted, refused, or_later}
use Rattle.entry.proofs.Verdicts.{accepted-clear, verdict-none, verdict-whole, verdict-append}
use Rattle.entry.proofs.Entry.{refused-done, accepted-done, counted-accepted, counted-refused}
use Rattle.rule.specs.Rows.{MANY, ROOM}
use Rattle.reading.specs.Lines.{lines_of}
use Rattle.reading.specs.Reading.{text_checks, read_checks}
use Rattle.reading.specs.Inner.{lines_checks}
use Rattle.entry.proofs.Reasons.{number-above}
use Rattle.reading.proofs.Lines.{points-all}
use Rattle.reading.proofs.read_points.Goals as goal
use Rattle.reading.proofs.read_points.Goals.{In_ok-lines}

-- each check refuses, or passes to the next
read-verdict : (t : List ℕ) (out : ℕ) → let n = length (lines_of t) in verdict (read_checks t out) ≡ cond (ltb 65_536 (length t)) (refused 2 0) (or_later (verdict (lines_checks t)) (cond (ltb most_points n) (refused 2 0) (cond (ltb (out / 2) n) (refused 8 n) accepted)))
unfolding read_checks text_checks
read-verdict t out =
    let n = length (lines_of t) in
    rw (verdict-whole, verdict-append (lines_checks t) (MANY most_points n ∷ ROOM n (out / 2) ∷ []), verdict-whole, verdict-whole, verdict-none)

pub returns-then-text-gt-MOST_BYTES : goal.returns-then-text-gt-MOST_BYTES
returns-then-text-gt-MOST_BYTES c = refused-done {k = 2} {p = 0} (rw c.at.ensures) (rw (read-verdict, lt-ltb 65_536 (length c.args.text.now) (omega arith)))

pub returns-in_err-lines : goal.returns-in_err-lines
returns-in_err-lines c =
    let t = c.args.text.now in
    let p = err_from_is_err_and c.from_residual.result c.from_residual.ensures.1 in
    let b = counted-refused (verdict (lines_checks t)) (length (lines_of t)) c.in_err-lines.ensures (λ z. omega (arith, number-above c.in_err-lines.field-0.0.reason)) in
    rw (p.1, p.2) (refused-done b.1 (rw (read-verdict, le-ltb 65_536 (length t) (omega arith), b.0)))

-- the lines that are counted are the text's, and all of them are good
all-good : (c : In_ok-lines) → (verdict (lines_checks c.args.text.now) ≡ accepted) × (c.in_ok-lines.lines ≡ length (lines_of c.args.text.now))
all-good c =
    let t = c.args.text.now in
    let v = counted-accepted (lines_checks t) (omega arith) (length (lines_of t)) c.in_ok-lines.ensures refl in
    (v, ap (λ r. r.count) c.in_ok-lines.ensures ∙ rw v)

-- so the last two checks say all
last_two : (c : In_ok-lines) (out : ℕ) → let n = c.in_ok-lines.lines in verdict (read_checks c.args.text.now out) ≡ cond (ltb most_points n) (refused 2 0) (cond (ltb (out / 2) n) (refused 8 n) accepted)
last_two c out = let g = all-good c in rw (read-verdict, le-ltb 65_536 (length c.args.text.now) (omega arith), g.0, ← g.1)

pub returns-then-lines-gt-MOST_LINES : goal.returns-then-lines-gt-MOST_LINES
returns-then-lines-gt-MOST_LINES c =
    let o = (goal.at.returns-then-lines-gt-MOST_LINES c).In_ok-lines in
    refused-done {k = 2} {p = 0} (rw c.at-then-lines-gt-MOST_LINES.ensures) (rw (last_two o, lt-ltb most_points c.in_ok-lines.lines (omega arith)))

pub returns-then-lines-points : goal.returns-then-lines-points
returns-then-lines-points c =
    let o = (goal.at.returns-then-lines-points c).In_ok-lines in
    let n = c.in_ok-lines.lines in
    refused-done {k = 8} {p = n} (rw c.at-then-lines-points.ensures) (rw (last_two o, le-ltb most_points n (omega arith), lt-ltb (length c.args.points.now / 2) n (omega arith)))

pub write_points-requires-clause-text_value : goal.write_points-requires-clause-text_value
write_points-requires-clause-text_value c = (all-good (goal.at.write_points-requires-clause-text_value c).In_ok-lines).0

pub write_points-requires-clause-text_in_bounds : goal.write_points-requires-clause-text_in_bounds
write_points-requires-clause-text_in_bounds c = omega (arith, (all-good (goal.at.write_points-requires-clause-text_in_bounds c).In_ok-lines).1)

pub returns : goal.returns
returns c =
    let o = (goal.at.returns c).In_ok-lines in
    let t = c.args.text.now in
    let n = c.in_ok-lines.lines in
    let g = all-good o in
    let all = points-all (lines_of t) ((accepted-clear (lines_checks t)).0 g.0).0 in
    accepted-done (c.in_ok-lines.ensures ∙ rw (g.0, all)) c.write_points.ensures (rw (last_two o, le-ltb most_points n (omega arith), le-ltb (length c.args.points.now / 2) n (omega arith)))
