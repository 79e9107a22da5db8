-- `panbuckle::step` meets its contract. Past the checks the points are accepted, and their step is `take_rectangle`'s; a refusal leaves all as it
-- was.
use mathlib.Core.Path.{refl}
use Rattle.plane.specs.Edge.{edge_length}
use Rattle.entry.specs.Checks.{verdict}
use Rattle.entry.proofs.Entry.{counted-accepted, counted-refused}
use Rattle.rule.specs.StepCall.{step_answer, step_work, step_checks}
use Rattle.rule.proofs.StepCall.{step-numbered, step-accepted}
use Rattle.entry.proofs.Reasons.{number-some, passed-up}
use Rattle.panbuckle.specs.Inner.{held}
use Rattle.panbuckle.proofs.step.Goals as goal

pub returns-in_err-check_work : goal.returns-in_err-check_work
unfolding step_answer step_work
returns-in_err-check_work c =
    let s = c.args in
    let v = (counted-refused (verdict (step_checks s.work.now s.count)) (edge_length (held s.count s.work.now)) c.in_err-check_work.ensures (number-some _)).0 in
    rw (passed-up _ _ c.from_residual.ensures.1) (record { answer = rw v; working = rw v })

pub take_rectangle-requires : goal.take_rectangle-requires
take_rectangle-requires c =
    let s = c.args in
    (step-accepted s.work.now s.count).0 (counted-accepted (step_checks s.work.now s.count) (step-numbered s.work.now s.count) (edge_length (held s.count s.work.now)) c.in_ok-check_work.ensures refl)
