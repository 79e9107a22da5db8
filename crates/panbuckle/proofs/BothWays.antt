-- Document 01's sentences that tie both directions, of whatever meets the contracts of forward and backward, one called on what the other
-- wrote.
use mathlib.Core.Path.{◌≡◌}
use mathlib.Core.Logic.{◌↔◌}
use Prim.Native.Nat.{◌*◌, ◌/◌, ◌≤◌}
use native.Mathlib.Omega.{arith}
use mathlib.Core.List.{List, ◌++◌}
use lib.ListN.{length, take, drop}
use lib.IntN.{ℤ}
use Rattle.plane.specs.Lists.{odd}
use Rattle.plane.specs.Words.{holds, flat_points, rects_of, in_order, rect_size, most_rects}
use Rattle.entry.specs.Entry.{Counted}
use Rattle.rule.specs.Back.{back_list}
use Rattle.rule.specs.BackwardCall.{BackwardDone}
use Rattle.rule.specs.ForwardCall.{ForwardDone, points_remaining, forward_list, ForwardAnswer}
use Rattle.rule.proofs.Demands.{forward-then-backward, backward-then-forward, two-lists}
use Rattle.outline.proofs.Kept as back
use Rattle.panbuckle.specs.Calls.{BackThenForward, list_after}
use Rattle.panbuckle.proofs.Kept.{done-list, done-numbers, done-sums, answers-0}

-- ---- Forward and then backward

module _ {a work out : List ℤ} {r : ForwardAnswer} {work-after out-after : List ℤ} (d : ForwardDone a work out r work-after out-after) (done : r.answer ≡ 0)
    {points : List ℤ} {s : Counted} {points-after : List ℤ} (b : BackwardDone (take (rect_size * r.count) out-after) points s points-after) where
  -- backward of the list that forward wrote gives the points that remain of the input's in order, where the list has at most 16,384 rectangles and
  -- there is room
  pub done-then-back : let n = length (points_remaining a) in r.count ≤ most_rects → 2 * n ≤ length points → (s ≡ record { answer = 0; place = 0; count = n }) × (points-after ≡ flat_points (in_order (points_remaining a)) ++ drop (2 * n) points)
  done-then-back few room =
      let listed : r.count ≡ length (forward_list a) = rw (done-list d done) at (done-sums d done).0 in
      rw (b.answer, b.output, done-numbers d done) (forward-then-backward a (length work) (length out) points (answers-0 d done) (omega arith) room)

-- ---- Two rectangle lists

module _ {a : List ℤ} (t : BackThenForward a) where
  -- the points given to forward are those of the rectangles
  given : take (2 * t.said.count) t.points-after ≡ flat_points (back_list (rects_of a))
  given = back.done-numbers a t.back t.done

  -- forward accepts them
  pub back-then-done : t.answer.answer ≡ 0
  back-then-done =
      let counted : t.said.count ≡ length (back_list (rects_of a)) = rw (back.done-points a t.back t.done) at (back.done-rising a t.back t.done).0 in
      let fits : length (forward_list (flat_points (back_list (rects_of a)))) ≤ length t.out / rect_size = rw given at t.room in
      rw (t.forth.answer, given)
      (backward-then-forward a (length t.points) (length t.work) (length t.out) (back.answers-0 a t.back t.done) (omega (arith, t.few)) (omega (arith, t.working)) fits)

-- the two forward lists are equal exactly when the same cells lie in an odd number of rectangles of each
pub two-lists-done : {a b : List ℤ} (t : BackThenForward a) (u : BackThenForward b) → (list_after t ≡ list_after u) ↔ ((x y : ℤ) → odd (holds x y) (rects_of a) ≡ odd (holds x y) (rects_of b))
two-lists-done {a} {b} t u =
    rw (done-list t.forth (back-then-done t), done-list u.forth (back-then-done u), given t, given u) (two-lists a b (length t.points) (length u.points) (back.answers-0 a t.back t.done) (back.answers-0 b u.back u.done))
