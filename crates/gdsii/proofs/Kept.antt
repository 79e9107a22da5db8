-- What whoever meets the contract of the reading keeps: each refusal exactly when its rule says so; on 0 the corners mark exactly the cells that the
-- boundaries mark, each of them by one boundary; and OVERLAP exactly when two boundaries mark one cell, of all cells.
use mathlib.Core.Path.{◌≡◌, refl, sym, ap, ◌∙◌}
use mathlib.Core.Logic.Iff
use mathlib.Core.Logic.{◌↔◌}
use Prim.Native.Nat.{ℕ, ◌*◌, ◌/◌, ◌≤◌}
use native.Mathlib.Omega.{arith}
use mathlib.Core.Bool.{Bool, true, false, not, cond}
use mathlib.Core.List.{List, [], ◌∷◌, ◌++◌}
use lib.ListN.{length, take, drop}
use lib.IntN.{ℤ}
use lib.Dec.{ltb}
use borrow.Author.Tests.{ltb-false, le-ltb}
use Rattle.plane.specs.declared.Point.{Point}
use Rattle.plane.specs.Lists.{bit, any, Starts}
use Rattle.plane.specs.Words.{most_points, origin, flat_points, point_in_range, point_at, marks}
use Rattle.plane.proofs.Bools.{granted}
use Rattle.plane.proofs.Arrays.{length-flat-points}
use Rattle.plane.proofs.Places.{all_pass}
use Rattle.plane.proofs.Outcomes.{one-outcome}
use Rattle.plane.proofs.AtStart.{points-layout, first-numbers, past-numbers, first-items}
use Rattle.entry.specs.Checks.{FirstMet, here, met, numbers_of, first_bad, accepted, refused, verdict}
use Rattle.entry.specs.Entry.{number_in, Kept, Counted}
use Rattle.entry.proofs.Verdicts.{Clear, AllClear, accepted-clear, verdict-none, verdict-whole, verdict-each, verdict-passes}
use Rattle.entry.proofs.Search.{none-bad}
use Rattle.entry.proofs.Entry.{Numbered, kept, counted-accepted, done-one-outcome}
use Rattle.rule.specs.Rows.{RANGE}
use Rattle.rule.specs.BackwardCall.{points_listed}
use Rattle.rule.proofs.Rows.{many-clear, room-clear}
use Rattle.boundaries.specs.Boundary.{inside, handed_on, markers, overlaps}
use Rattle.boundaries.proofs.Handed.{Shapes, handed-exactly, handed-once, overlaps-exactly}
use Rattle.gdsii.specs.Walk.{Outcome, stopped, walked, read_all}
use Rattle.gdsii.specs.Call.{fault_in, found_in, boundaries_in, corners_in, read_checks, fault_numbers, ReadAccepted, Overlapping, ReadDone}
use Rattle.gdsii.proofs.Stream.{fault-number}
use Rattle.gdsii.proofs.Call.{read-shapes, read-verdict, stopped-verdict}

-- ---- The checks

-- the numbers of the checks in their order: of the first four the one that is met first
pub read-gdsii-order : (o : Outcome) (out : ℕ) → fault_numbers ++ numbers_of (read_checks o out) ≡ 12 ∷ 13 ∷ 14 ∷ 15 ∷ 16 ∷ 2 ∷ 4 ∷ 17 ∷ 8 ∷ []
unfolding numbers_of read_checks
read-gdsii-order o out = refl

-- a walk to the end has no fault
no-fault : (u : Outcome) {bs : List (List Point)} → u ≡ walked true bs → Clear (met (fault_in u))
no-fault (stopped k p) e = let z : ◌≡◌ {A = ℕ} 0 1 = cc in absurd (omega arith)
no-fault (walked f bs) e = tt

found-true : (u : Outcome) {bs : List (List Point)} → u ≡ walked true bs → not (found_in u) ≡ false
found-true u e = ap (λ (v : Outcome). not (found_in v)) e

-- a refusal accepts nothing
not-accepted : {k p : ℕ} → refused k p ≡ accepted → ⊥
not-accepted e = let z : ◌≡◌ {A = ℕ} 0 1 = cc in omega arith

-- they accept exactly what `ReadAccepted` says
pub read-accepted : (o : Outcome) (out : ℕ) → (verdict (read_checks o out) ≡ accepted) ↔ ReadAccepted o out
unfolding read_checks
read-accepted o out = Iff.trans (accepted-clear (read_checks o out)) (go o, back o)
  where
    go : (u : Outcome) → AllClear (read_checks u out) → ReadAccepted u out
    go (stopped k p) h = absurd (not-accepted h.0.0)
    go (walked f bs) h = record {
      found = ap (λ (b : Bool). walked b bs) (granted f h.1.0);
      few = (many-clear most_points (length (handed_on bs))).0 h.1.1.0;
      range = (all_pass point_in_range (handed_on bs) origin).0 h.1.1.1.0;
      apart = h.1.1.1.1.0;
      room = (room-clear (length (handed_on bs)) (out / 2)).0 h.1.1.1.1.1.0;
    }

    back : (u : Outcome) → ReadAccepted u out → AllClear (read_checks u out)
    back u c = (no-fault u c.found, (found-true u c.found, ((many-clear most_points (length (corners_in u))).1 c.few, ((all_pass point_in_range (corners_in u) origin).1 c.range, (c.apart, ((room-clear (length (corners_in u)) (out / 2)).1 c.room, tt))))))

-- ---- OVERLAP

-- the checks in order say OVERLAP exactly when none before it is given and it is
module _ (i n : ℕ) where
  only-overlap : (f many far over short : Bool) → number_in (cond (not f) (refused 16 0) (cond many (refused 2 0) (cond far (refused 4 i) (cond over (refused 17 0) (cond short (refused 8 n) accepted))))) ≡ 17 → (f ≡ true) × (many ≡ false) × (far ≡ false) × (over ≡ true)
  only-overlap false many far over short e = absurd (omega arith)
  only-overlap true true far over short e = absurd (omega arith)
  only-overlap true false true over short e = absurd (omega arith)
  only-overlap true false false true short e = (refl, refl, refl, refl)
  only-overlap true false false false true e = absurd (omega arith)
  only-overlap true false false false false e = absurd (omega arith)

walked-verdict : (f : Bool) (bs : List (List Point)) (out : ℕ) → let ps = handed_on bs in let i = first_bad (length ps) (λ j. not (point_in_range (point_at ps j))) in verdict (read_checks (walked f bs) out) ≡ cond (not f) (refused 16 0) (cond (ltb most_points (length ps)) (refused 2 0) (cond (ltb i (length ps)) (refused 4 i) (cond (overlaps bs) (refused 17 0) (cond (ltb (out / 2) (length ps)) (refused 8 (length ps)) accepted))))
walked-verdict f bs out = read-verdict f bs out ∙ rw (verdict-each, verdict-whole, verdict-whole, verdict-none)

-- ---- Whoever meets the contract

module _ (t name : List ℕ) (layer : ℤ) where
  -- the walk, and the boundaries that it read
  abbrev walk : Outcome
  walk = read_all name layer t

  abbrev read : List (List Point)
  read = boundaries_in walk

  -- no number is 0
  fault-numbered : (o : Outcome) → walk ≡ o → {k p : ℕ} → FirstMet (fault_in o) k p → 12 ≤ k
  fault-numbered (walked found boundaries) e m = elim m [ ]
  fault-numbered (stopped k p) e here = (fault-number name layer t e).0

  read-numbered : (out : ℕ) → Numbered (read_checks walk out)
  unfolding read_checks
  read-numbered out = (λ k p m. omega (arith, fault-numbered walk refl m), (omega arith, (omega arith, (omega arith, (omega arith, (omega arith, tt))))))

  module _ {out : List ℤ} {r : Counted} {scratch_after out-after : List ℤ} (d : ReadDone t name layer out r scratch_after out-after) where
    -- it answers what its checks give, with the count of corners, and leaves the corners at the output's start
    pub read_kept : Kept (read_checks walk (length out)) (length (corners_in walk)) (flat_points (corners_in walk)) out r out-after
    read_kept = kept d.done (read-numbered (length out)) (λ e. let c = (read-accepted walk (length out)).0 e in omega (arith, length-flat-points (corners_in walk), c.room))

    -- there is no second outcome
    pub read-one-outcome : {s : Counted} {v o : List ℤ} → ReadDone t name layer out s v o → (r ≡ s) × (scratch_after ≡ v) × (out-after ≡ o)
    read-one-outcome e = let l = done-one-outcome d.done e.done in (l.0, one-outcome d.scratch e.scratch, l.1)

    -- OVERLAP exactly when, with nothing before it refused, two boundaries mark one cell, of all whole a and b
    pub overlap-exactly : (r.answer ≡ 17) ↔ Overlapping walk
    overlap-exactly = (λ e. overlap-told walk refl (ap (λ (s : Counted). s.answer) (sym d.done.answer) ∙ e), λ h. ap (λ (s : Counted). s.answer) d.done.answer ∙ overlap-tells h)
      where
        overlap-told : (o : Outcome) → walk ≡ o → number_in (verdict (read_checks o (length out))) ≡ 17 → Overlapping o
        overlap-told (stopped k p) e n = let f = fault-number name layer t e in absurd (omega (arith, f.1, ap number_in (sym (stopped-verdict k p (length out))) ∙ n))
        overlap-told (walked f bs) e n =
            let ps : List Point = handed_on bs in
            let far : ℕ → Bool = λ j. not (point_in_range (point_at ps j)) in
            let i : ℕ = first_bad (length ps) far in
            let h = only-overlap i (length ps) f (ltb most_points (length ps)) (ltb i (length ps)) (overlaps bs) (ltb (length out / 2) (length ps)) (ap number_in (sym (walked-verdict f bs (length out))) ∙ n) in
            let within = (all_pass point_in_range ps origin).0 (none-bad (length ps) far (ltb-false i (length ps) h.2)) in
            record { found = ap (λ (b : Bool). walked b bs) h.0; few = ltb-false most_points (length (handed_on bs)) h.1; range = within; twice = (overlaps-exactly bs (read-shapes name layer t e) within).0 h.3 }

        overlap-tells : Overlapping walk → number_in (verdict (read_checks walk (length out))) ≡ 17
        overlap-tells h =
            let over = (overlaps-exactly read (read-shapes name layer t h.found) h.range).1 h.twice in
            let said : verdict (read_checks walk (length out)) ≡ refused 17 0 =
            ap (λ (o : Outcome). verdict (read_checks o (length out))) h.found
            ∙ read-verdict true read (length out)
            ∙ rw (le-ltb most_points (length (handed_on read)) h.few) (verdict-passes (RANGE (handed_on read)) _ ((all_pass point_in_range (handed_on read) origin).1 h.range) ∙ rw (verdict-whole, over)) in
            ap number_in said

    module _ (done : r.answer ≡ 0) where
      -- what was read is accepted
      pub done-accepted : ReadAccepted walk (length out)
      done-accepted = (read-accepted walk (length out)).0 (counted-accepted (read_checks walk (length out)) (read-numbered (length out)) (length (corners_in walk)) d.done.answer done)

      -- the boundaries are closed and not slanted
      pub done-shapes : Shapes read
      done-shapes = read-shapes name layer t done-accepted.found

      -- the output starts with the corners, and they are counted
      starts : Starts (flat_points (corners_in walk)) out out-after
      starts = read_kept.leaves.done-starts done

      counted : r.count ≡ length (corners_in walk)
      counted = read_kept.done-count done

      -- as numbers the corners are the output's first ones
      pub done-numbers : take (2 * r.count) out-after ≡ flat_points (corners_in walk)
      done-numbers = first-numbers points-layout (corners_in walk) counted starts

      -- and it is otherwise unchanged
      pub done-rest : drop (2 * r.count) out-after ≡ drop (2 * r.count) out
      done-rest = past-numbers points-layout (corners_in walk) counted starts

      -- on 0 the output holds the corners at its start, in the stream's order
      pub done-corners : points_listed r out-after ≡ corners_in walk
      done-corners = first-items points-layout (corners_in walk) counted starts

      -- the corners handed on mark exactly the cells that the boundaries mark
      pub done-marks : (a b : ℤ) → marks (points_listed r out-after) a b ≡ any (inside a b) read
      done-marks a b = rw done-corners (handed-exactly read done-shapes done-accepted.range done-accepted.apart a b)

      -- and each of these is marked by exactly one boundary
      pub done-once : (a b : ℤ) → markers read a b ≡ bit (marks (points_listed r out-after) a b)
      done-once a b = rw done-corners (handed-once read done-shapes done-accepted.range done-accepted.apart a b)
