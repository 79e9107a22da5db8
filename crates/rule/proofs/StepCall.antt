-- Of a call of step: its order, what it accepts, and what it leaves.
use mathlib.Core.Path.{◌≡◌, refl, ap}
use mathlib.Core.Logic.Iff
use mathlib.Core.Logic.{◌↔◌, ◌≢◌}
use Prim.Native.Nat.{ℕ, ◌≤◌}
use native.Mathlib.Omega.{arith}
use mathlib.Core.List.{List, [], ◌∷◌}
use lib.ListN.{length, take, length-take}
use lib.IntN.{ℤ}
use borrow.Author.Tests.{le-ltb}
use Rattle.std.specs.Prelude.{Result, Ok, Err}
use Rattle.plane.specs.declared.Point.{Point}
use Rattle.plane.specs.Words.{points_of, most_points}
use Rattle.plane.proofs.Arrays.{length-points}
use Rattle.plane.proofs.Outcomes.{one-outcome}
use Rattle.entry.specs.declared.Refusal.{Refusal}
use Rattle.entry.specs.Refusals.{number_of}
use Rattle.entry.specs.Checks.{numbers_of, Verdict, accepted, refused, judged, verdict}
use Rattle.entry.specs.Entry.{number_in, place_in, Answers, Leaves}
use Rattle.entry.proofs.Verdicts.{AllClear, accepted-clear}
use Rattle.entry.proofs.Entry.{Numbered, accepts, answers, leaves}
use Rattle.entry.proofs.Reasons.{refusal-apart}
use Rattle.rule.specs.declared.Step.{Step}
use Rattle.rule.specs.Rule.{Taken}
use Rattle.rule.specs.Rows.{point_checks}
use Rattle.rule.specs.Working.{padded, work_of}
use Rattle.rule.specs.StepCall.{step_taken, step_checks, StepAccepted, step_told, step_says, step_answer, step_work, StepDone, step_number, step_place, step_values, StepAnswer, Rectangle, Refused}
use Rattle.rule.proofs.Rows.{many-clear, work-clear, drained-clear, points-clear}
use Rattle.rule.proofs.Working.{padded-length}
use Rattle.rule.proofs.Steps.{accepted-step}

-- what it says has the verdict's number and place
step-says : (v : Verdict) (t : Taken) → (step_number (step_says v t) ≡ number_in v) × (step_place (step_says v t) ≡ place_in v)
step-says accepted t = (refl, refl)
step-says (refused k p) t = (refl, refl)

module _ (work : List ℤ) (n : ℕ) where
  -- ---- Its checks

  -- 2, 3, 10, 4, 5, 6, 7
  pub step-order : numbers_of (step_checks work n) ≡ 2 ∷ 3 ∷ 10 ∷ 4 ∷ 5 ∷ 6 ∷ 7 ∷ []
  unfolding step_checks point_checks numbers_of
  step-order = refl

  pub step-numbered : Numbered (step_checks work n)
  unfolding step_checks point_checks
  step-numbered = omega arith

  -- they accept exactly what `StepAccepted` says
  pub step-accepted : (verdict (step_checks work n) ≡ accepted) ↔ StepAccepted work n
  unfolding step_checks
  step-accepted = Iff.trans (accepted-clear (step_checks work n)) (go, back)
    where
      ps : List Point
      ps = take n (points_of work)

      go : AllClear (step_checks work n) → StepAccepted work n
      go h = record { few = (many-clear most_points n).0 h.0; working = (work-clear (length work) n).0 h.1.0; some_left = (drained-clear n).0 h.1.1.0; points = (points-clear ps).0 h.1.1.1 }

      back : StepAccepted work n → AllClear (step_checks work n)
      back c = ((many-clear most_points n).1 c.few, ((work-clear (length work) n).1 c.working, ((drained-clear n).1 c.some_left, (points-clear ps).1 c.points)))

  -- ---- What it answers and leaves

  -- so does its answer
  told : (step_number (step_answer work n) ≡ number_in (verdict (step_checks work n))) × (step_place (step_answer work n) ≡ place_in (verdict (step_checks work n)))
  unfolding step_answer
  told = step-says (verdict (step_checks work n)) (step_taken work n)

  -- it answers 0 exactly when the checks accept
  pub step-accepts : (step_number (step_answer work n) ≡ 0) ↔ (verdict (step_checks work n) ≡ accepted)
  step-accepts = rw told.0 (accepts (step_checks work n) step-numbered)

  -- an accepted step leaves no more points than it was given
  few-left : StepAccepted work n → length (step_taken work n).left ≤ n
  few-left c =
      let e : length (take n (points_of work)) ≡ n = omega (arith, length-take n (points_of work), length-points work, c.working) in
      rw e at (accepted-step (take n (points_of work)) (rw e c.some_left) c.points).1

  -- so they fit the working array
  step_room : verdict (step_checks work n) ≡ accepted → length (padded n (step_taken work n).left) ≤ length work
  step_room e = let c = step-accepted.0 e in omega (arith, padded-length n (step_taken work n).left (few-left c), c.working)

  -- it gives its rectangle and the number of points that it leaves in the working array
  pub taken_step : StepAccepted work n → let t = step_taken work n in (step_answer work n ≡ Rectangle t.rect (length t.left)) × (step_work work n ≡ work_of n t.left work)
  unfolding step_answer step_work work_of
  taken_step acc = rw (step-accepted.1 acc) (refl, refl)

-- ---- The answer that a result tells

-- two results that tell the same answer are the same
pub step-told-apart : (r s : Result Step Refusal) → step_told r ≡ step_told s → r ≡ s
step-told-apart (Ok a) (Ok b) d =
    let x : a.rect ≡ b.rect = cc in
    let n : a.count ≡ b.count = cc in
    λ i. Ok (record { rect = x i; count = n i })
step-told-apart (Ok a) (Err f) d = cc
step-told-apart (Err e) (Ok b) d = cc
step-told-apart (Err e) (Err f) d =
    let n : number_of e.reason ≡ number_of f.reason = cc in
    let p : e.place ≡ f.place = cc in
    ap Err (refusal-apart e f n p)

-- ---- Whoever meets its contract

module _ {work : List ℤ} {n : ℕ} {r : StepAnswer} {work-after : List ℤ} (d : StepDone work n r work-after) where
  -- answers what its checks give
  pub step-answers : Answers (step_checks work n) (step_number r) (step_place r)
  step-answers = let t = told work n in rw (d.answer, t.0, t.1) (answers (step_checks work n) (step-numbered work n))

  -- with no values on a refusal
  pub step-refused-values : step_number r ≢ 0 → step_values r ≡ []
  unfolding step_answer
  step-refused-values = rw d.answer (go (verdict (step_checks work n)) (step_taken work n))
    where
      go : (v : Verdict) (t : Taken) → step_number (step_says v t) ≢ 0 → step_values (step_says v t) ≡ []
      go accepted t m = absurd (m refl)
      go (refused k p) t m = refl

  -- and otherwise the rule's rectangle, with the number of points that it leaves
  pub step-taken : step_number r ≡ 0 → let t = step_taken work n in r ≡ Rectangle t.rect (length t.left)
  step-taken = rw d.answer (λ e. (taken_step work n ((step-accepted work n).0 ((step-accepts work n).0 e))).0)

  -- leaves the points and zeros up to twice the count given at the working array's start, and on a refusal nothing
  pub step-leaves : Leaves (step_number r) (padded n (step_taken work n).left) work work-after
  unfolding step_work
  step-leaves = rw (d.answer, d.working, (told work n).0) (leaves (step_checks work n) (step-numbered work n) (padded n (step_taken work n).left) work (step_room work n))

  -- and has no second outcome
  pub step-one-outcome : {s : StepAnswer} {other : List ℤ} → StepDone work n s other → (r ≡ s) × (work-after ≡ other)
  step-one-outcome e = (one-outcome d.answer e.answer, one-outcome d.working e.working)

-- nor a second result that tells it
pub step-one-result : {work : List ℤ} {n : ℕ} {r s : Result Step Refusal} {v w : List ℤ} → StepDone work n (step_told r) v → StepDone work n (step_told s) w → (r ≡ s) × (v ≡ w)
step-one-result {r = r} {s = s} d e = let o = step-one-outcome d e in (step-told-apart r s o.0, o.1)

-- ---- With no points left

-- it is refused, DRAINED, and the working array is unchanged
pub drained-step : (work : List ℤ) → (step_answer work 0 ≡ Refused 10 0) × (step_work work 0 ≡ work)
unfolding step_answer step_work step_checks verdict judged
drained-step work = rw (le-ltb (length work) 0 (omega arith)) (refl, refl)
