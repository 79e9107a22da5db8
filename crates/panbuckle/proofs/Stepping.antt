-- Forward is the points that remain, copied in the order in which they are first listed, and stepped until none is left: what the two contracts say of
-- each other.
use mathlib.Core.Path.{◌≡◌, refl, sym, ap, subst, ◌∙◌}
use mathlib.Core.Logic.{◌↔◌, ◌⊎◌, inl, inr}
use Prim.Native.Nat.{ℕ, zero, suc, ◌<◌, ◌≤◌}
use native.Mathlib.Omega.{arith}
use mathlib.Core.List.{List, [], ◌∷◌, ◌++◌}
use lib.ListN.{length, drop}
use lib.IntN.{ℤ}
use Rattle.plane.specs.declared.Point.{Point}
use Rattle.plane.specs.declared.Rect.{Rect}
use Rattle.plane.specs.Lists.{sum}
use Rattle.plane.specs.Words.{points_of, area_of, flat_rects}
use Rattle.plane.specs.Edge.{edge_length}
use Rattle.rule.specs.Rule.{Taken, step, run, left_after, enough, rule_list}
use Rattle.rule.specs.Working.{work_of}
use Rattle.rule.specs.ForwardCall.{forward_answer, forward_out, forward_work, ForwardDone, points_remaining, forward_list, ForwardAnswer}
use Rattle.rule.specs.StepCall.{StepDone, StepAnswer, Rectangle, Refused}
use Rattle.rule.specs.Rows.{Accepted}
use Rattle.rule.proofs.ForwardCall.{forward-accepts, forward-needs, forward-fits, forward-drained-work}
use Rattle.rule.proofs.Steps.{accepted-step}
use Rattle.rule.proofs.Remaining.{remaining-accepted}
use Rattle.rule.proofs.Bound.{rule-ends}
use Rattle.rule.proofs.Working.{work-length, work-points, work-again, work_none}
use Rattle.rule.proofs.StepCall.{drained-step, taken_step, step-one-outcome}
use Rattle.panbuckle.specs.Inner.{held}
use Rattle.panbuckle.specs.Calls.{copied, copies, Stepped, emptied, another, Reached, at-start, onward}
use Rattle.panbuckle.proofs.Scan.{held-length}
use Rattle.panbuckle.proofs.Taking.{Holds, holds-ready}
use Rattle.panbuckle.proofs.Copied.{copied-points, copied-drained, copied-holds}

-- ---- One call

-- with no points a call answers DRAINED
none_left : (work : List ℤ) → StepDone work 0 (Refused 10 0) work
none_left work = let d = drained-step work in record { answer = sym d.0; working = sym d.1 }

-- the rule's step of the points held
abbrev taken : List ℤ → ℕ → Taken
taken work n = step (held n work)

module _ {work : List ℤ} {n : ℕ} (h : Holds work n) (more : 0 < n) where
  -- with accepted points a call takes the rule's rectangle
  one-taken : StepDone work n (Rectangle (taken work n).rect (length (taken work n).left)) (work_of n (taken work n).left work)
  one-taken =
      let t = taken_step work n (holds-ready h more) in
      record { answer = sym t.0; working = sym t.1 }

  -- the points left are accepted, and no more than before
  left-accepted : Accepted (taken work n).left × (length (taken work n).left ≤ n)
  left-accepted = let e = held-length n work h.working in rw e at (accepted-step (held n work) (rw e more) h.points)

  -- the array then holds the points left
  left-points : held (length (taken work n).left) (work_of n (taken work n).left work) ≡ (taken work n).left
  left-points = work-points n (taken work n).left work

  -- so it holds accepted points
  left-held : Holds (work_of n (taken work n).left work) (length (taken work n).left)
  left-held =
      let few = left-accepted.1 in
      record {
        few = omega (arith, h.few);
        working = omega (arith, h.working, work-length n (taken work n).left work few h.working);
        points = rw left-points left-accepted.0;
      }

-- a rectangle is no refusal
apart : {r : Rect} {m k p : ℕ} → Rectangle r m ≡ Refused k p → ⊥
apart e = let z : ◌≡◌ {A = ℕ} 0 1 = cc in omega arith

-- a call on accepted points that answers a rectangle leaves accepted points
call-holds : {work after : List ℤ} {n m : ℕ} {r : Rect} → Holds work n → StepDone work n (Rectangle r m) after → Holds after m
call-holds {work} {n = zero} h d = absurd (apart (step-one-outcome d (none_left work)).0)
call-holds {work} {n = suc n} {m} h d =
    let o = step-one-outcome d (one-taken h (omega arith)) in
    let e : m ≡ length (taken work (suc n)).left = cc o.0 in
    rw (o.1, e) (left-held h (omega arith))

-- a call on accepted points answers a rectangle or DRAINED, and DRAINED exactly when no points are left
call-answers : {work after : List ℤ} {n : ℕ} {r : StepAnswer} → Holds work n → StepDone work n r after → (((q : Rect) × (m : ℕ) × (r ≡ Rectangle q m)) ⊎ (r ≡ Refused 10 0)) × ((r ≡ Refused 10 0) ↔ (n ≡ 0))
call-answers {work} {n = zero} h d = let e = (step-one-outcome d (none_left work)).0 in (inr e, (λ f. refl, λ f. e))
call-answers {n = suc n} h d =
    let e = (step-one-outcome d (one-taken h (omega arith))).0 in
    (inl (_, _, e), (λ f. absurd (apart (sym e ∙ f)), λ f. absurd (omega arith)))

-- ---- Calls until none remain

-- where no points are held, the first call answers DRAINED
stepped-none : (work : List ℤ) (n : ℕ) → Holds work n → held n work ≡ [] → Stepped work n [] (work_of n [] work)
stepped-none work n h e =
    let z : n ≡ 0 = sym (held-length n work h.working) ∙ ap length e in
    rw (z, work_none work) (emptied (none_left work))

-- from accepted points the calls give the rule's run, and drain the array
stepped-run : (f : ℕ) (work : List ℤ) (n : ℕ) (ps : List Point) → held n work ≡ ps → Holds work n → left_after step f ps ≡ [] → Stepped work n (run step f ps) (work_of n [] work)
unfolding run left_after
stepped-run zero work n ps e h d = stepped-none work n h (e ∙ d)
stepped-run (suc f) work n [] e h d = stepped-none work n h e
stepped-run (suc f) work n (p ∷ qs) e h d =
    let more : 0 < n = omega (arith, ap length e, held-length n work h.working) in
    let left : List Point = (taken work n).left in
    let few = (left-accepted h more).1 in
    let rest = stepped-run f (work_of n left work) (length left) left (left-points h more) (left-held h more) (rw (← e) at d) in
    subst (λ (ls : List Point). Stepped work n ((step ls).rect ∷ run step f (step ls).left) (work_of n [] work)) e (another (one-taken h more) (rw (work-again (length left) n left [] work (omega arith) (omega arith) few) at rest))

-- calls with the same start give the same rectangles and the same array
pub stepped-one-outcome : {work : List ℤ} {n : ℕ} {rs ss : List Rect} {v w : List ℤ} → Stepped work n rs v → Stepped work n ss w → (rs ≡ ss) × (v ≡ w)
stepped-one-outcome (emptied d) (emptied e) = (refl, (step-one-outcome d e).1)
stepped-one-outcome (emptied d) (another e t) = absurd (apart (step-one-outcome e d).0)
stepped-one-outcome (another d s) (emptied e) = absurd (apart (step-one-outcome d e).0)
stepped-one-outcome (another {m = m} d s) (another {m = j} e t) =
    let o = step-one-outcome d e in
    let f : m ≡ j = cc o.0 in
    let i = stepped-one-outcome s (rw (← f, ← o.1) at t) in
    (cc (o.0, i.0), i.1)

-- ---- Forward

module _ (a work : List ℤ) (out : ℕ) (h : ((forward_answer a (length work) out).answer ≡ 0) ⊎ ((forward_answer a (length work) out).answer ≡ 8)) where
  -- the points copied are accepted
  copied-accepted : Holds (copied a work) (copies a)
  copied-accepted = copied-holds a work (forward-fits a (length work) out h)

  -- so are those that calls reach
  reached-accepted : {w : List ℤ} {n : ℕ} → Reached (copied a work) (copies a) w n → Holds w n
  reached-accepted at-start = copied-accepted
  reached-accepted (onward s d) = call-holds (reached-accepted s) d

  -- where forward answers 0 or 8, calls on the points copied give the list, and leave the working array as forward does
  pub forward-stepped : Stepped (copied a work) (copies a) (forward_list a) (forward_work a work out)
  unfolding rule_list
  forward-stepped =
      rw (forward-drained-work a work out h, ← copied-drained a work)
      (stepped-run (enough (points_remaining a)) (copied a work) (copies a) (points_remaining a) (copied-points a work) copied-accepted (rule-ends (points_remaining a) (remaining-accepted (points_of a) (forward-fits a (length work) out h).points)))

  -- each of these calls answers a rectangle or DRAINED, and DRAINED exactly when no points are left
  pub stepped-never-refused-otherwise : {w after : List ℤ} {n : ℕ} {r : StepAnswer} → Reached (copied a work) (copies a) w n → StepDone w n r after → (((q : Rect) × (m : ℕ) × (r ≡ Rectangle q m)) ⊎ (r ≡ Refused 10 0)) × ((r ≡ Refused 10 0) ↔ (n ≡ 0))
  stepped-never-refused-otherwise s d = call-answers (reached-accepted s) d

module _ {a work out : List ℤ} {r : ForwardAnswer} {w o : List ℤ} (d : ForwardDone a work out r w o) {rs : List Rect} {v : List ℤ} (s : Stepped (copied a work) (copies a) rs v) where
  -- the answer is the contract's
  answers : (k : ℕ) → r.answer ≡ k → (forward_answer a (length work) (length out)).answer ≡ k
  answers k z = rw d.answer at z

  -- on 0 forward gives the calls' rectangles: their count, their area and the edge of the points copied, the output with them, and the working array
  -- as they leave it
  pub forward-done-stepped : r.answer ≡ 0 → (r.count ≡ length rs) × (r.area ≡ sum area_of rs) × (r.edge ≡ edge_length (points_remaining a)) × (o ≡ flat_rects rs ++ drop (length (flat_rects rs)) out) × (w ≡ v)
  unfolding forward_answer forward_out
  forward-done-stepped z =
      let e = answers 0 z in
      let i = stepped-one-outcome s (forward-stepped a work (length out) (inl e)) in
      rw (d.answer, d.working, d.output, i.0, i.1, (forward-accepts a (length work) (length out)).0 e) (refl, refl, refl, refl, refl)

  -- on 8 it gives the number of them as its place, the output unchanged, and the working array as they leave it
  pub forward-short-stepped : r.answer ≡ 8 → (r.place ≡ length rs) × (o ≡ out) × (w ≡ v)
  unfolding forward_answer forward_out
  forward-short-stepped z =
      let e = answers 8 z in
      let i = stepped-one-outcome s (forward-stepped a work (length out) (inr e)) in
      rw (d.answer, d.working, d.output, i.0, i.1, forward-needs a (length work) (length out) e) (refl, refl, refl)
