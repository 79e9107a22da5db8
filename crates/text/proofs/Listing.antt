-- What the program does with the points read, by forward's contract.
use Prim.Native.Nat.{ℕ}
use mathlib.Core.Path.{◌≡◌, ap, ◌∙◌}
use mathlib.Core.Logic.{◌≢◌}
use mathlib.Core.List.{List}
use lib.ListN.{length}
use lib.IntN.{ℤ}
use Rattle.plane.specs.declared.Point.{Point}
use Rattle.plane.specs.Lists.{put_at}
use Rattle.plane.specs.Words.{origin}
use Rattle.plane.proofs.Arrays.{points-flat}
use Rattle.entry.specs.Checks.{accepted, refused, verdict}
use Rattle.entry.proofs.Entry.{refused-is}
use Rattle.rule.specs.ForwardCall.{forward_says, forward_answer, ForwardDone, forward_list, forward_sums, ForwardAnswer}
use Rattle.rule.proofs.Demands.{forward-verdict}
use Rattle.panbuckle.proofs.Kept.{answers-0}
use Rattle.reading.specs.Reading.{points_read, text_checks}
use Rattle.text.specs.declared.Report.{Report}
use Rattle.text.specs.Program.{most_work, most_list, refusal_line, program_prints, program_report, ProgramDone, numbers_read, report_says, printed}
use Rattle.text.specs.Inner.{says, Listed}
use Rattle.text.proofs.Checks.{program-forward, program-refused, text-names-none}

module _ {a work out : List ℤ} {r : ForwardAnswer} {work-after out-after : List ℤ} (d : ForwardDone a work out r work-after out-after) where
  -- with the program's room a list is accepted
  pub says-accepted : length work ≡ most_work → length out ≡ most_list → r.answer ≡ 0 → says a ≡ accepted
  says-accepted w o done = rw (w, o) at (forward-verdict a (length work) (length out) (answers-0 d done))

  -- and anything else refused
  pub says-refused : length work ≡ most_work → length out ≡ most_list → r.answer ≢ 0 → says a ≡ refused r.answer r.place
  unfolding forward_answer
  says-refused w o n =
      let e : r ≡ forward_says (says a) (forward_sums a) = rw (w, o) at d.answer in
      rw e (refused-is (says a) (rw e at n))

-- where the text is accepted, that is what the program does
pub program-listed : {t out : List ℕ} {r : Report} {after : List ℕ} → verdict (text_checks t) ≡ accepted → Listed (numbers_read t) (length t) out r after → ProgramDone t out r after
unfolding program_report program_prints
program-listed {t} e l =
    let v = program-forward t e in
    let a = numbers_read t in
    let report : List Point → Report = λ ps. report_says (says a) ps (length t) (length (printed (says a) (forward_sums a) (forward_list a))) in
    record { report = rw v (l.report ∙ ap report (points-flat (points_read t))); output = rw v l.output }

-- where it is refused, that is printed, and no point is named
pub program-told : {t out : List ℕ} {r : Report} {after : List ℕ} {k p : ℕ} → verdict (text_checks t) ≡ refused k p → r ≡ record { answer = k; place = p; point = origin; read = length t; printed = length (refusal_line k p) } → after ≡ put_at out 0 (refusal_line k p) → ProgramDone t out r after
unfolding program_report program_prints
program-told {t} e report output =
    let v = program-refused t e in
    record { report = rw (v, text-names-none t (points_read t) e) report; output = rw v output }
