-- `gdsii::hand_on` meets its contract: each check refuses, or passes to the next.
use Prim.Native.Nat.{◌/◌}
use mathlib.Core.Path.{◌≡◌, refl, sym, ap, ◌∙◌}
use mathlib.Core.Bool.{cond}
use lib.ListN.{length}
use lib.Dec.{ltb}
use borrow.Author.Tests.{lt-ltb, le-ltb}
use Rattle.plane.specs.Words.{points_of, marks, cells}
use Rattle.plane.proofs.Arrays.{length-points}
use Rattle.entry.specs.Checks.{accepted, refused, verdict}
use Rattle.entry.specs.Entry.{counted, told}
use Rattle.entry.proofs.Entry.{counted-refused, refused-done, accepted-done}
use Rattle.rule.specs.Rows.{balance_checks, few_then}
use Rattle.rule.proofs.Rows.{balance-accepted}
use Rattle.area.proofs.Kept.{area-done-exactly-when, area-cells}
use Rattle.gdsii.specs.Inner.{hand_checks}
use Rattle.entry.proofs.Reasons.{passed-up, number-some}
use Rattle.gdsii.proofs.Call.{points-verdict}
use Rattle.gdsii.proofs.hand_on.Goals as goal
use Rattle.gdsii.proofs.hand_on.Goals.{In_ok-marked}

pub returns-in_err-marked : goal.returns-in_err-marked
returns-in_err-marked c =
    let ps = points_of c.args.points.now in
    let e = c.in_err-marked.field-0.0 in
    let r = counted-refused (verdict (few_then balance_checks ps)) (cells (marks ps)) c.in_err-marked.ensures (number-some e.reason) in
    refused-done (ap told (passed-up c.from_residual.result _ c.from_residual.ensures.1) ∙ r.1) (rw (points-verdict, r.0))

-- past the checks of the points themselves
past : (c : In_ok-marked) → let a = c.args in let n = length a.points.now / 2 in verdict (hand_checks (points_of a.points.now) a.area (length a.corners.now)) ≡ cond (ltb c.in_ok-marked.marked a.area) (refused 17 0) (cond (ltb (length a.corners.now / 2) n) (refused 8 n) accepted)
past c =
    let a = c.args in
    let ps = points_of a.points.now in
    let e : verdict (few_then balance_checks ps) ≡ accepted = (balance-accepted ps).1 ((area-done-exactly-when a.points.now c.in_ok-marked.ensures).0 refl) in
    rw (points-verdict, e, ← area-cells a.points.now c.in_ok-marked.ensures refl, length-points)

pub returns-then-marked-area : goal.returns-then-marked-area
returns-then-marked-area c = rw c.at.ensures (refused-done refl (rw (past (goal.at.returns-then-marked-area c).In_ok-marked, lt-ltb _ _ c.if-marked-area.true)))

pub returns-then-corners-n : goal.returns-then-corners-n
returns-then-corners-n c =
    rw c.at-then-corners-n.ensures (refused-done refl (rw (past (goal.at.returns-then-corners-n c).In_ok-marked, le-ltb _ _ c.if-marked-area.false, lt-ltb _ _ c.if-corners-n.true)))

pub returns : goal.returns
returns c =
    let a = c.args in
    accepted-done (ap (counted accepted) (sym (length-points a.points.now))) c.copy.ensures (rw (past (goal.at.returns c).In_ok-marked, le-ltb _ _ c.if-marked-area.false, le-ltb _ _ c.if-corners-n.false))
