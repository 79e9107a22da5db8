-- Of a call of forward: its order, what it accepts, its room and its working array.
use mathlib.Core.Path.{◌≡◌, refl, sym, ap}
use mathlib.Core.Logic.Iff
use mathlib.Core.Logic.{◌↔◌, ◌≢◌, ◌⊎◌, inl, inr}
use Prim.Native.Nat.{ℕ, ◌*◌, ◌/◌, ◌≤◌, ◌<◌}
use native.Mathlib.Omega.{arith}
use mathlib.Core.List.{List, [], ◌∷◌}
use lib.ListN.{length, replicate}
use lib.IntN.{ℤ, pos}
use lib.Dec.{eqb}
use Rattle.std.specs.Prelude.{Result, Ok, Err}
use borrow.Author.Tests.{eqb-true, ne_eqb}
use Rattle.plane.specs.Lists.{Starts}
use Rattle.plane.specs.Words.{points_of, flat_rects, rect_size, most_points}
use Rattle.plane.proofs.Outcomes.{one-outcome}
use Rattle.plane.proofs.Arrays.{length-flat-rects}
use Rattle.plane.proofs.Bools.{cond-case}
use Rattle.plane.proofs.AtStart.{start-starts}
use Rattle.entry.specs.declared.Refusal.{Refusal}
use Rattle.entry.specs.Checks.{Check, numbers_of, Verdict, accepted, refused, verdict}
use Rattle.entry.specs.Entry.{number_in, Answers, Leaves}
use Rattle.entry.proofs.Verdicts.{AllClear, verdict-case, refused-exactly, accepted-clear, clear-append, verdict-append, refused-number, lacks-room}
use Rattle.entry.proofs.Entry.{Numbered, accepts, answers, leaves, refused-is}
use Rattle.entry.proofs.Reasons.{number-some, refusal-apart}
use Rattle.rule.specs.declared.Sums.{Sums}
use Rattle.rule.specs.Rows.{ROOM, balance_checks}
use Rattle.rule.specs.Working.{work_of}
use Rattle.rule.specs.ForwardCall.{forward_list, forward_checks, ForwardAccepted, forward_answer, forward_told, sums_told, forward_out, drained, forward_work, ForwardDone, input_checks, ForwardAnswer}
use Rattle.rule.proofs.Rows.{length-clear, many-clear, work-clear, room-clear, balance-clear}
use Rattle.rule.proofs.Working.{padded-none, work-length}

-- the last check
abbrev last_check : (a : List ℤ) (out : ℕ) → List Check
last_check a out = ROOM (length (forward_list a)) (out / rect_size) ∷ []

module _ (a : List ℤ) (work out : ℕ) where
  -- ---- Its checks

  -- 1, 2, 3, 4, 6, 7, 8
  pub forward-order : numbers_of (forward_checks a work out) ≡ 1 ∷ 2 ∷ 3 ∷ 4 ∷ 6 ∷ 7 ∷ 8 ∷ []
  unfolding forward_checks input_checks balance_checks numbers_of
  forward-order = refl

  forward-numbered : Numbered (forward_checks a work out)
  unfolding forward_checks input_checks balance_checks
  forward-numbered = omega arith

  -- they accept exactly what `ForwardAccepted` says
  pub forward-accepted : (verdict (forward_checks a work out) ≡ accepted) ↔ ForwardAccepted a work out
  unfolding forward_checks input_checks
  forward-accepted = Iff.trans (accepted-clear (forward_checks a work out)) (Iff.trans (clear-append (input_checks a work) (last_check a out)) (go, back))
    where
      n : ℕ
      n = length a / 2

      go : AllClear (input_checks a work) × AllClear (last_check a out) → ForwardAccepted a work out
      go h = record { even = (length-clear (length a) 2).0 h.0.0; few = (many-clear most_points n).0 h.0.1.0; working = (work-clear work n).0 h.0.1.1.0; points = (balance-clear (points_of a)).0 h.0.1.1.1; room = (room-clear (length (forward_list a)) (out / rect_size)).0 h.1.0 }

      back : ForwardAccepted a work out → AllClear (input_checks a work) × AllClear (last_check a out)
      back c = (((length-clear (length a) 2).1 c.even, ((many-clear most_points n).1 c.few, ((work-clear work n).1 c.working, (balance-clear (points_of a)).1 c.points))), ((room-clear (length (forward_list a)) (out / rect_size)).1 c.room, tt))

  -- it answers 0 exactly when they accept
  pub forward-accepts : ((forward_answer a work out).answer ≡ 0) ↔ (verdict (forward_checks a work out) ≡ accepted)
  unfolding forward_answer
  forward-accepts = accepts (forward_checks a work out) forward-numbered

  -- and never REPEATED, whatever is given
  pub forward-never-repeated : (forward_answer a work out).answer ≢ 5
  unfolding forward_answer forward_checks input_checks balance_checks
  forward-never-repeated = verdict-case (λ v. number_in v ≢ 5) (verdict (forward_checks a work out)) (λ e. omega arith) (λ k p e. refused-number (forward_checks a work out) (λ n. n ≢ 5) (omega arith) e)

-- ---- Its room

-- what is accepted fits the output
forward-room : (a : List ℤ) (work : ℕ) (out : List ℤ) → verdict (forward_checks a work (length out)) ≡ accepted → length (flat_rects (forward_list a)) ≤ length out
forward-room a work out e = let c = (forward-accepted a work (length out)).0 e in omega (arith, length-flat-rects (forward_list a), c.room)

-- with other room, if it is enough for the list, it accepts the same
pub accepted-with-room : {a : List ℤ} {work out room : ℕ} → ForwardAccepted a work out → length (forward_list a) ≤ room / rect_size → ForwardAccepted a work room
accepted-with-room c h = record { even = c.even; few = c.few; working = c.working; points = c.points; room = h }

-- it lacks room, at p, exactly when p is the length of the list, the output has room for fewer, and with room for p it would accept
pub forward-lacks-room : (a : List ℤ) (work out p : ℕ) → (verdict (forward_checks a work out) ≡ refused 8 p) ↔ (ForwardAccepted a work (rect_size * p) × (p ≡ length (forward_list a)) × (out / rect_size < p))
unfolding forward_checks input_checks balance_checks
forward-lacks-room a work out p = lacks-room (input_checks a work) 8 _ (out / rect_size) (rect_size * p / rect_size) p (omega arith) (omega arith) (forward-accepted a work (rect_size * p))

module _ (a : List ℤ) (work out : ℕ) where
  -- so its answer 8 tells the length of the list
  pub forward-needs : (forward_answer a work out).answer ≡ 8 → verdict (forward_checks a work out) ≡ refused 8 (length (forward_list a))
  unfolding forward_answer
  forward-needs e =
      let p : ℕ = (forward_answer a work out).place in
      let v = (refused-exactly (forward_checks a work out) 8 p).1 (((answers (forward_checks a work out) (forward-numbered a work out)).refused-exactly-when 7 p).0 (e, refl)) in
      rw (← ((forward-lacks-room a work out p).0 v).1) v

  -- where it answers 0 or 8, it would accept with room for the list
  pub forward-fits : ((forward_answer a work out).answer ≡ 0) ⊎ ((forward_answer a work out).answer ≡ 8) → ForwardAccepted a work (rect_size * length (forward_list a))
  forward-fits (inl e) = accepted-with-room ((forward-accepted a work out).0 ((forward-accepts a work out).0 e)) (omega arith)
  forward-fits (inr e) = ((forward-lacks-room a work out _).0 (forward-needs e)).0

-- ---- Its checks before the list is known

module _ (a : List ℤ) (work : ℕ) where
  pub input-numbered : Numbered (input_checks a work)
  unfolding input_checks balance_checks
  input-numbered = omega arith

  -- what they refuse, it refuses with the same number and place
  pub input-refused : (out : ℕ) {k p : ℕ} → verdict (input_checks a work) ≡ refused k p → verdict (forward_checks a work out) ≡ refused k p
  unfolding forward_checks
  input-refused out e = rw (verdict-append (input_checks a work) (last_check a out), e)

  -- never with 8
  pub input-refused-not-8 : {k p : ℕ} → verdict (input_checks a work) ≡ refused k p → k ≢ 8
  unfolding input_checks balance_checks
  input-refused-not-8 e = refused-number (input_checks a work) (λ n. n ≢ 8) (omega arith) e

  -- what they accept, it accepts with room for the list
  pub input-accepted : verdict (input_checks a work) ≡ accepted → ForwardAccepted a work (rect_size * length (forward_list a))
  unfolding forward_checks
  input-accepted e =
      let n : ℕ = length (forward_list a) in
      (forward-accepted a work (rect_size * n)).0 (rw (verdict-append (input_checks a work) (last_check a (rect_size * n)), e) ((accepted-clear (last_check a (rect_size * n))).1 ((room-clear n (rect_size * n / rect_size)).1 (omega arith), tt)))

-- ---- Its working array

module _ (a work : List ℤ) (out : ℕ) where
  -- with 0 and 8 it is drained
  pub forward-drained-work : ((forward_answer a (length work) out).answer ≡ 0) ⊎ ((forward_answer a (length work) out).answer ≡ 8) → forward_work a work out ≡ work_of (length a / 2) [] work
  unfolding forward_work
  forward-drained-work (inl e) = rw ((forward-accepts a (length work) out).0 e)
  forward-drained-work (inr e) = rw (forward-needs a (length work) out e)

  -- its length stays
  work-kept : length (forward_work a work out) ≡ length work
  unfolding forward_work
  work-kept = go (verdict (forward_checks a (length work) out)) (λ e. ((forward-accepted a (length work) out).0 e).working) (λ p e. ((forward-lacks-room a (length work) out p).0 e).0.working)
    where
      go : (v : Verdict) → (v ≡ accepted → 2 * (length a / 2) ≤ length work) → ((p : ℕ) → v ≡ refused 8 p → 2 * (length a / 2) ≤ length work) → length (drained v (length a / 2) work) ≡ length work
      go accepted h g = work-length (length a / 2) [] work (omega arith) (h refl)
      go (refused k p) h g = cond-case (λ (l : List ℤ). length l ≡ length work) (eqb k 8) (λ e. work-length (length a / 2) [] work (omega arith) (g p (ap (λ m. refused m p) (eqb-true k 8 e)))) (λ e. refl)

-- ---- The answer that a result tells

-- two results that tell the same answer are the same
pub forward-told-apart : (r s : Result Sums Refusal) → forward_told r ≡ forward_told s → r ≡ s
forward-told-apart (Ok a) (Ok b) d = ap Ok (λ i. sums_told (d i))
forward-told-apart (Ok a) (Err f) d = absurd (number-some f.reason (sym (λ i. (d i).answer)))
forward-told-apart (Err e) (Ok b) d = absurd (number-some e.reason (λ i. (d i).answer))
forward-told-apart (Err e) (Err f) d = ap Err (refusal-apart e f (λ i. (d i).answer) (λ i. (d i).place))

-- ---- Whoever meets its contract

module _ {a work out : List ℤ} {r : ForwardAnswer} {work-after out-after : List ℤ} (d : ForwardDone a work out r work-after out-after) where
  -- answers what its checks give
  pub forward-answers : Answers (forward_checks a (length work) (length out)) r.answer r.place
  unfolding forward_answer
  forward-answers = rw d.answer (answers (forward_checks a (length work) (length out)) (forward-numbered a (length work) (length out)))

  -- never REPEATED
  pub never-repeated : r.answer ≢ 5
  never-repeated = rw d.answer (forward-never-repeated a (length work) (length out))

  -- with the sums of the list, which on a refusal are 0
  pub forward-refused-sums : r.answer ≢ 0 → sums_told r ≡ record { count = 0; area = 0; edge = 0 }
  unfolding forward_answer
  forward-refused-sums = rw d.answer (λ n. rw (refused-is (verdict (forward_checks a (length work) (length out))) n))

  -- leaves the list at the output's start, and on a refusal nothing
  pub forward-leaves : Leaves r.answer (flat_rects (forward_list a)) out out-after
  unfolding forward_answer forward_out
  forward-leaves = rw (d.answer, d.output) (leaves (forward_checks a (length work) (length out)) (forward-numbered a (length work) (length out)) (flat_rects (forward_list a)) out (forward-room a (length work) out))

  -- and zeros in the working array: with 0 and 8 its first 2n numbers, and the rest is unchanged
  pub forward-zeroed : (r.answer ≡ 0) ⊎ (r.answer ≡ 8) → Starts (replicate (2 * (length a / 2)) (pos 0)) work work-after
  unfolding work_of
  forward-zeroed = rw (d.answer, d.working) (λ h. rw (forward-drained-work a work (length out) h, padded-none (length a / 2)) (start-starts (replicate (2 * (length a / 2)) (pos 0)) work))

  -- which any other refusal doesn't touch
  pub forward-refused-work : r.answer ≢ 0 → r.answer ≢ 8 → work-after ≡ work
  unfolding forward_answer forward_work
  forward-refused-work = rw (d.answer, d.working) (go (verdict (forward_checks a (length work) (length out))))
    where
      go : (v : Verdict) → number_in v ≢ 0 → number_in v ≢ 8 → drained v (length a / 2) work ≡ work
      go accepted n m = absurd (n refl)
      go (refused k p) n m = rw (ne_eqb k 8 m)

  -- and whose length stays
  pub forward-work-length : length work-after ≡ length work
  forward-work-length = rw d.working (work-kept a work (length out))

  -- and has no second outcome
  pub forward-one-outcome : {s : ForwardAnswer} {w o : List ℤ} → ForwardDone a work out s w o → (r ≡ s) × (work-after ≡ w) × (out-after ≡ o)
  forward-one-outcome e = (one-outcome d.answer e.answer, one-outcome d.working e.working, one-outcome d.output e.output)

-- nor a second result that tells it
pub forward-one-result : {a work out : List ℤ} {r s : Result Sums Refusal} {v w o p : List ℤ} → ForwardDone a work out (forward_told r) v o → ForwardDone a work out (forward_told s) w p → (r ≡ s) × (v ≡ w) × (o ≡ p)
forward-one-result {r = r} {s = s} d e = let l = forward-one-outcome d e in (forward-told-apart r s l.0, l.1, l.2)
