-- `panbuckle::check_work` meets its contract: each check refuses, or passes to the next.
use Prim.Native.Nat.{◌≤◌}
use native.Mathlib.Omega.{arith}
use lib.ListN.{length, take, length-take}
use borrow.Author.Tests.{lt-ltb, le-ltb, eq-eqb, ne_eqb}
use Rattle.plane.specs.Words.{most_points, points_of}
use Rattle.plane.proofs.Arrays.{points-take}
use Rattle.entry.specs.Checks.{judged, verdict}
use Rattle.rule.specs.StepCall.{step_checks}
use Rattle.panbuckle.proofs.check_work.Goals as goal

pub returns-then-n-gt-MOST_POINTS : goal.returns-then-n-gt-MOST_POINTS
unfolding step_checks verdict judged
returns-then-n-gt-MOST_POINTS c = rw (c.at.ensures, lt-ltb _ _ c.if-n-gt-MOST_POINTS.true)

pub returns-then-work-n : goal.returns-then-work-n
unfolding step_checks verdict judged
returns-then-work-n c = rw (c.at-then-work-n.ensures, le-ltb _ _ c.if-n-gt-MOST_POINTS.false, lt-ltb _ _ c.if-work-n.true)

pub returns-then-n-eq0 : goal.returns-then-n-eq0
unfolding step_checks verdict judged
returns-then-n-eq0 c = rw (c.at-then-n-eq0.ensures, le-ltb _ _ c.if-n-gt-MOST_POINTS.false, le-ltb _ _ c.if-work-n.false, eq-eqb _ _ c.if-n-eq0.true)

pub returns : goal.returns
unfolding step_checks verdict judged
returns c =
    let r = c.args in
    let few : length (take r.n (points_of r.work.now)) ≤ most_points = omega (arith, length-take r.n (points_of r.work.now), c.if-n-gt-MOST_POINTS.false) in
    simp (le-ltb _ _ c.if-n-gt-MOST_POINTS.false, le-ltb _ _ c.if-work-n.false, ne_eqb _ _ c.if-n-eq0.false) (rw (points-take r.n r.work.now, le-ltb most_points _ few) at c.check_points.ensures)
