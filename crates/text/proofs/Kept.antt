-- What the program promises, of whatever meets its contract.
use Prim.Native.Nat.{ℕ, suc, ◌≤◌}
use native.Mathlib.Omega.{arith}
use mathlib.Core.Path.{◌≡◌, refl, ap, ◌∙◌, sym}
use mathlib.Core.Logic.{◌≢◌}
use mathlib.Core.List.{List}
use lib.ListN.{length, take}
use Rattle.std.specs.Prelude.{Option, None, Some}
use Rattle.plane.specs.Remaining.{Balanced}
use Rattle.plane.proofs.Outcomes.{one-outcome}
use Rattle.plane.proofs.Arrays.{points-flat}
use Rattle.plane.proofs.AtPlace.{pasted_length, pasted-front}
use Rattle.entry.specs.declared.Refusal.{Refusal}
use Rattle.entry.specs.Checks.{verdict}
use Rattle.entry.specs.Entry.{number_in, Answers}
use Rattle.entry.proofs.Entry.{answers, accepts}
use Rattle.entry.proofs.Verdicts.{verdict-case, refused-exactly, refused-number}
use Rattle.entry.proofs.Reasons.{number-some, refusal-apart}
use Rattle.rule.specs.Rows.{balance_checks}
use Rattle.rule.specs.ForwardCall.{input_checks, forward_checks, forward_sums, forward_list}
use Rattle.numerals.proofs.Putting.{put-made}
use Rattle.reading.specs.Reading.{points_read, text_checks}
use Rattle.text.specs.declared.Outcome.{Outcome}
use Rattle.text.specs.declared.Report.{Report}
use Rattle.text.specs.Program.{program_checks, list_lines, refusal_line, answer_told, place_told, outcome_told, program_prints, program_report, ProgramDone, numbers_read}
use Rattle.text.proofs.Checks.{program-accepts, program-numbered}
use Rattle.text.proofs.Longest.{longest-fits}

module _ {t out : List ℕ} {r : Report} {after : List ℕ} (d : ProgramDone t out r after) where
  -- into 153,679 bytes everything printed is put, from the start on
  pub prints-all : 153_679 ≤ length out → (take r.printed after ≡ program_prints t) × (r.printed ≤ length after) × (length after ≡ length out)
  unfolding program_report
  prints-all room =
      let bytes = program_prints t in
      let fits = longest-fits t in
      let many : r.printed ≡ length bytes = ap (λ s. s.printed) d.report in
      let put = d.output ∙ sym (put-made out 0 bytes (omega arith)).output in
      let long = pasted_length out 0 bytes (omega arith) in
      rw (many, put) (pasted-front out bytes, omega arith, long)

  -- the program answers what its checks give
  pub program-answers : Answers (program_checks t) r.answer r.place
  unfolding program_report
  program-answers = rw d.report (answers (program_checks t) (program-numbered t))

  -- prints a refusal
  pub refused-prints : (k p : ℕ) → r.answer ≡ suc k → r.place ≡ p → program_prints t ≡ refusal_line (suc k) p
  unfolding program_prints
  refused-prints k p e f = rw ((refused-exactly (program_checks t) (suc k) p).1 ((program-answers.refused-exactly-when k p).0 (e, f)))

  -- which is never REPEATED
  pub program-never-repeated : r.answer ≢ 5
  unfolding program_report program_checks text_checks forward_checks input_checks balance_checks
  program-never-repeated = rw d.report (verdict-case (λ v. number_in v ≢ 5) (verdict (program_checks t)) (λ e. omega arith) (λ k p e. refused-number (program_checks t) (λ n. n ≢ 5) (omega arith) e))

  -- and otherwise, where forward accepts the points read, the rule's list of those that remain
  pub done-prints : r.answer ≡ 0 → (program_prints t ≡ list_lines (forward_sums (numbers_read t)) (forward_list (numbers_read t))) × Balanced (points_read t)
  unfolding program_prints program_report
  done-prints e =
      let v = (accepts (program_checks t) (program-numbered t)).0 (rw d.report at e) in
      (rw v, rw (points-flat (points_read t)) at (program-accepts t v).points)

  -- and has no second outcome
  pub program-one-outcome : {s : Report} {other : List ℕ} → ProgramDone t out s other → (r ≡ s) × (after ≡ other)
  program-one-outcome e = (one-outcome d.report e.report, one-outcome d.output e.output)

-- ---- The report that an outcome tells

-- two refusals, or none, with the same number and place are the same
refusals-apart : (e f : Option Refusal) → answer_told e ≡ answer_told f → place_told e ≡ place_told f → e ≡ f
refusals-apart None None n p = refl
refusals-apart None (Some f) n p = absurd (number-some f.reason (sym n))
refusals-apart (Some e) None n p = absurd (number-some e.reason n)
refusals-apart (Some e) (Some f) n p = ap Some (refusal-apart e f n p)

-- two outcomes that tell the same report are the same
pub outcome-told-apart : (a b : Outcome) → outcome_told a ≡ outcome_told b → a ≡ b
outcome-told-apart a b d = λ i. record { refusal = refusals-apart a.refusal b.refusal (λ j. (d j).answer) (λ j. (d j).place) i; point = (d i).point; read = (d i).read; printed = (d i).printed }

-- so nothing that meets its contract has a second one
pub program-one-result : {t out : List ℕ} {a b : Outcome} {after other : List ℕ} → ProgramDone t out (outcome_told a) after → ProgramDone t out (outcome_told b) other → (a ≡ b) × (after ≡ other)
program-one-result {a = a} {b = b} d e = let o = program-one-outcome d e in (outcome-told-apart a b o.0, o.1)
