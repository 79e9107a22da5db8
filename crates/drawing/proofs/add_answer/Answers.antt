-- `drawing::add_answer` meets its contract: the sums of a list, or a refusal.
use native.Mathlib.Omega.{arith}
use mathlib.Core.Path.{◌≡◌}
use mathlib.Core.Bool.{false}
use lib.Dec.{eqb}
use borrow.Author.Tests.{ne_eqb}
use Rattle.entry.specs.Refusals.{number_of}
use Rattle.entry.proofs.Reasons.{number-above}
use Rattle.text.specs.Program.{answer_told}
use Rattle.drawing.specs.Picture.{say_part}
use Rattle.drawing.proofs.add_answer.Goals as goal
use Rattle.drawing.proofs.add_answer.Goals.{In-Some}

-- a refusal's number is not 0
not-done : (c : In-Some) → eqb (answer_told c.args.outcome.refusal) 0 ≡ false
not-done c =
    let e = c.in-Some.refusal in
    rw c.in-Some.is (ne_eqb (number_of e.reason) 0 (λ z. omega (arith, number-above e.reason)))

pub returns-in-Some : goal.returns-in-Some
unfolding say_part
returns-in-Some c = rw (not-done (goal.at.returns-in-Some c).In-Some) c.add_refusal.ensures

pub returns-in-None : goal.returns-in-None
unfolding say_part
returns-in-None c = rw c.in-None.is c.add_sums.ensures
