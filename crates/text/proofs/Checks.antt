-- The program's checks: those of the text, and then forward's of the points read.
use mathlib.Core.Path.{◌≡◌, refl}
use mathlib.Core.Bool.{false}
use Prim.Native.Nat.{ℕ, ◌≤◌}
use native.Mathlib.Omega.{arith}
use mathlib.Core.List.{List}
use Rattle.plane.specs.declared.Point.{Point}
use Rattle.plane.specs.Words.{origin, flat_points}
use Rattle.plane.proofs.Bools.{cond-false}
use Rattle.entry.specs.Checks.{accepted, refused, verdict}
use Rattle.entry.proofs.Verdicts.{accepted-clear, clear-append, verdict-append, refused-number}
use Rattle.entry.proofs.Entry.{Numbered}
use Rattle.rule.specs.Rows.{balance_checks}
use Rattle.rule.specs.ForwardCall.{forward_checks, ForwardAccepted, input_checks}
use Rattle.rule.proofs.ForwardCall.{forward-accepted}
use Rattle.reading.specs.Reading.{points_read, text_checks}
use Rattle.text.specs.Program.{most_work, most_list, program_checks, names_one, offender}
use Rattle.text.specs.Inner.{says}

-- where the program accepts, so does forward, of the points read
pub program-accepts : (t : List ℕ) → verdict (program_checks t) ≡ accepted → ForwardAccepted (flat_points (points_read t)) most_work most_list
unfolding program_checks
program-accepts t e =
    let a = flat_points (points_read t) in
    let h = (clear-append (text_checks t) (forward_checks a most_work most_list)).0 ((accepted-clear (program_checks t)).0 e) in
    (forward-accepted a most_work most_list).0 ((accepted-clear (forward_checks a most_work most_list)).1 h.1)

pub program-numbered : (t : List ℕ) → Numbered (program_checks t)
unfolding program_checks text_checks forward_checks input_checks balance_checks
program-numbered t = omega arith

-- 11 is the greatest number
pub program-number : (t : List ℕ) {k p : ℕ} → verdict (program_checks t) ≡ refused k p → k ≤ 11
unfolding program_checks text_checks forward_checks input_checks balance_checks
program-number t e = refused-number (program_checks t) (λ k. k ≤ 11) (omega arith) e

-- where the text is accepted, the program says what forward says of its points
pub program-forward : (t : List ℕ) → verdict (text_checks t) ≡ accepted → verdict (program_checks t) ≡ says (flat_points (points_read t))
unfolding program_checks
program-forward t e = rw (verdict-append (text_checks t) (forward_checks (flat_points (points_read t)) most_work most_list), e)

-- what is refused of the text is refused
pub program-refused : (t : List ℕ) {k p : ℕ} → verdict (text_checks t) ≡ refused k p → verdict (program_checks t) ≡ refused k p
unfolding program_checks
program-refused t e = rw (verdict-append (text_checks t) (forward_checks (flat_points (points_read t)) most_work most_list), e)

-- it names no point
pub text-names-none : (t : List ℕ) {k p : ℕ} (ps : List Point) → verdict (text_checks t) ≡ refused k p → offender k p ps ≡ origin
unfolding offender text_checks names_one
text-names-none t {k} {p} ps e = cond-false (names_one k) _ _ (refused-number (text_checks t) (λ k. names_one k ≡ false) (refl, (refl, (refl, tt))) e)
