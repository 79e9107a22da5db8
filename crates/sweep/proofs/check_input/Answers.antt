-- `sweep::check_input` meets its contract: each check refuses, or passes to the next.
use Prim.Native.Nat.{ℕ, ◌≤◌}
use native.Mathlib.Omega.{arith}
use mathlib.Core.Path.{◌≡◌, ap}
use mathlib.Core.List.{List}
use lib.ListN.{length}
use lib.IntN.{ℤ}
use borrow.Author.Tests.{lt-ltb, le-ltb, eq-eqb, ne_eqb}
use Rattle.plane.specs.Words.{points_of, most_points}
use Rattle.plane.proofs.Arrays.{length-points}
use Rattle.std.specs.Prelude.{Err}
use Rattle.entry.specs.declared.Refusal.{Refusal}
use Rattle.entry.specs.Entry.{told}
use Rattle.entry.specs.Checks.{refused, verdict}
use Rattle.entry.proofs.Verdicts.{verdict-whole}
use Rattle.rule.specs.ForwardCall.{input_checks}
use Rattle.rule.specs.Rows.{balance_checks, few_then}
use Rattle.checks.proofs.Kept.{ordered-found}
use Rattle.sweep.specs.Inner.{Ordered}
use Rattle.sweep.proofs.check_input.Goals as goal

-- where the points are refused, no order is asked for
none-asked : (a : List ℤ) (work : ℕ) (order : List ℕ) {k p : ℕ} → verdict (input_checks a work) ≡ refused k p → Ordered a work order
none-asked a work order v = record { in_order = λ e. cc }

pub returns-then-points-ne0 : goal.returns-then-points-ne0
unfolding input_checks
returns-then-points-ne0 c =
    let s = c.args in
    let v : verdict (input_checks s.points.now s.work) ≡ refused 1 0 = simp (verdict-whole, ne_eqb _ _ c.if-points-ne0.true) in
    record { value = rw v (ap (λ (e : Refusal). told (Err e)) c.at.ensures); ordered = none-asked s.points.now s.work _ v }

pub returns-then-n-gt-MOST_POINTS : goal.returns-then-n-gt-MOST_POINTS
unfolding input_checks
returns-then-n-gt-MOST_POINTS c =
    let s = c.args in
    let v : verdict (input_checks s.points.now s.work) ≡ refused 2 0 = simp (verdict-whole, eq-eqb _ _ c.if-points-ne0.false, lt-ltb _ _ c.if-n-gt-MOST_POINTS.true) in
    record { value = rw v (ap (λ (e : Refusal). told (Err e)) c.at-then-n-gt-MOST_POINTS.ensures); ordered = none-asked s.points.now s.work _ v }

pub returns-then-work-n : goal.returns-then-work-n
unfolding input_checks
returns-then-work-n c =
    let s = c.args in
    let v : verdict (input_checks s.points.now s.work) ≡ refused 3 0 = simp (verdict-whole, eq-eqb _ _ c.if-points-ne0.false, le-ltb _ _ c.if-n-gt-MOST_POINTS.false, lt-ltb _ _ c.if-work-n.true) in
    record { value = rw v (ap (λ (e : Refusal). told (Err e)) c.at-then-work-n.ensures); ordered = none-asked s.points.now s.work _ v }

pub returns : goal.returns
unfolding input_checks
returns c =
    let s = c.args in
    let a = s.points.now in
    let few : length (points_of a) ≤ most_points = omega (arith, length-points a, c.if-n-gt-MOST_POINTS.false) in
    let v : verdict (input_checks a s.work) ≡ verdict (few_then balance_checks (points_of a)) = simp (verdict-whole, eq-eqb _ _ c.if-points-ne0.false, le-ltb _ _ c.if-n-gt-MOST_POINTS.false, le-ltb _ _ c.if-work-n.false, le-ltb most_points (length (points_of a)) few) in
    record { value = rw v c.order_points.ensures.value; ordered = record { in_order = λ _. rw (c.order_points.ensures.order_after, ← length-points a) (ordered-found (points_of a) _ few) } }
