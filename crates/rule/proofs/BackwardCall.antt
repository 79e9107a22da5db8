-- Of a call of backward: its order, what it accepts, and its room.
use mathlib.Core.Path.{◌≡◌, refl}
use mathlib.Core.Logic.Iff
use mathlib.Core.Logic.{◌↔◌}
use Prim.Native.Nat.{ℕ, ◌*◌, ◌/◌, ◌≤◌, ◌<◌}
use native.Mathlib.Omega.{arith}
use mathlib.Core.List.{List, [], ◌∷◌}
use lib.ListN.{length}
use lib.IntN.{ℤ}
use Rattle.plane.specs.Words.{flat_points, rects_of, rect_size, most_rects}
use Rattle.plane.proofs.Arrays.{length-flat-points}
use Rattle.entry.specs.Checks.{numbers_of, accepted, refused, verdict}
use Rattle.entry.specs.Entry.{Kept, Counted}
use Rattle.entry.proofs.Verdicts.{AllClear, accepted-clear, lacks-room}
use Rattle.entry.proofs.Entry.{Numbered, accepts, kept}
use Rattle.rule.specs.Rows.{LENGTH, MANY, FLAT, RANGE-rects}
use Rattle.rule.specs.BackwardCall.{backward_points, backward_checks, BackwardAccepted, backward_answer, BackwardDone}
use Rattle.rule.proofs.Rows.{length-clear, many-clear, room-clear, rects-clear}

module _ (a : List ℤ) (out : ℕ) where
  -- ---- Its checks

  -- 1, 2, 9, 4, 8
  pub backward-order : numbers_of (backward_checks a out) ≡ 1 ∷ 2 ∷ 9 ∷ 4 ∷ 8 ∷ []
  unfolding backward_checks numbers_of
  backward-order = refl

  backward-numbered : Numbered (backward_checks a out)
  unfolding backward_checks
  backward-numbered = omega arith

  -- they accept exactly what `BackwardAccepted` says
  pub backward-accepted : (verdict (backward_checks a out) ≡ accepted) ↔ BackwardAccepted a out
  unfolding backward_checks
  backward-accepted = Iff.trans (accepted-clear (backward_checks a out)) (go, back)
    where
      go : AllClear (backward_checks a out) → BackwardAccepted a out
      go h = record { even = (length-clear (length a) rect_size).0 h.0; few = (many-clear most_rects (length a / rect_size)).0 h.1.0; rects = (rects-clear (rects_of a)).0 (h.1.1.0, (h.1.1.1.0, tt)); room = (room-clear (length (backward_points a)) (out / 2)).0 h.1.1.1.1.0 }

      back : BackwardAccepted a out → AllClear (backward_checks a out)
      back c =
          let t = (rects-clear (rects_of a)).1 c.rects in
          ((length-clear (length a) rect_size).1 c.even, ((many-clear most_rects (length a / rect_size)).1 c.few, (t.0, (t.1.0, ((room-clear (length (backward_points a)) (out / 2)).1 c.room, tt)))))

  -- it answers 0 exactly when they accept
  pub backward-accepts : ((backward_answer a out).answer ≡ 0) ↔ (verdict (backward_checks a out) ≡ accepted)
  backward-accepts = accepts (backward_checks a out) backward-numbered

-- ---- Its room

-- what is accepted fits the output
backward-room : (a out : List ℤ) → verdict (backward_checks a (length out)) ≡ accepted → length (flat_points (backward_points a)) ≤ length out
backward-room a out e = let c = (backward-accepted a (length out)).0 e in omega (arith, length-flat-points (backward_points a), c.room)

-- it lacks room, at p, exactly when p is the count of points, the output has room for fewer, and with room for p it would accept
pub backward-lacks-room : (a : List ℤ) (out p : ℕ) → (verdict (backward_checks a out) ≡ refused 8 p) ↔ (BackwardAccepted a (2 * p) × (p ≡ length (backward_points a)) × (out / 2 < p))
unfolding backward_checks
backward-lacks-room a out p = lacks-room (LENGTH (length a) rect_size ∷ MANY most_rects (length a / rect_size) ∷ FLAT (rects_of a) ∷ RANGE-rects (rects_of a) ∷ []) 8 _ (out / 2) (2 * p / 2) p (omega arith) (omega arith) (backward-accepted a (2 * p))

-- ---- Whoever meets its contract

-- answers what its checks give, with the count of points, and leaves the points at the output's start
pub backward-kept : (a : List ℤ) {out : List ℤ} {r : Counted} {out-after : List ℤ} → BackwardDone a out r out-after → Kept (backward_checks a (length out)) (length (backward_points a)) (flat_points (backward_points a)) out r out-after
backward-kept a {out} d = kept d (backward-numbered a (length out)) (backward-room a out)
