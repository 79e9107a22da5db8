-- The customer's second demand, of whatever meets the contract of backward: of the answer that the caller gets, and of the lent array as the
-- caller finds it afterwards. The first is `backward-kept`, in the crate `rule`.
use mathlib.Core.Path.{◌≡◌}
use Prim.Native.Nat.{◌*◌}
use mathlib.Core.Bool.{true}
use mathlib.Core.List.{List}
use lib.ListN.{length, take, drop}
use lib.IntN.{ℤ}
use Rattle.plane.specs.declared.Point.{Point}
use Rattle.plane.specs.Lists.{any, odd, Starts}
use Rattle.plane.specs.Words.{same, rising, holds, marks, flat_points, rects_of}
use Rattle.plane.proofs.AtStart.{points-layout, first-numbers, past-numbers, first-items}
use Rattle.entry.specs.Entry.{Counted}
use Rattle.entry.specs.Checks.{verdict, accepted}
use Rattle.rule.specs.Back.{odd_corner}
use Rattle.rule.specs.BackwardCall.{backward_points, backward_answer, backward_checks, BackwardDone, points_listed}
use Rattle.rule.proofs.BackwardCall.{backward-accepts, backward-accepted, backward-kept}
use Rattle.rule.proofs.Backward.{back-points, back-rising, back-marks}

-- ---- Demand 2: going back, exactly the points that are a corner of an odd number of the rectangles, in order

module _ (a : List ℤ) {out : List ℤ} {r : Counted} {out-after : List ℤ} (d : BackwardDone a out r out-after) (done : r.answer ≡ 0) where
  -- 0 is what the definition answers
  pub answers-0 : (backward_answer a (length out)).answer ≡ 0
  answers-0 = rw d.answer at done

  -- the checks accept
  checks-accept : verdict (backward_checks a (length out)) ≡ accepted
  checks-accept = (backward-accepts a (length out)).0 answers-0

  -- the output starts with the points, and they are counted
  starts : Starts (flat_points (backward_points a)) out out-after
  starts = (backward-kept a d).leaves.done-starts done

  counted : r.count ≡ length (backward_points a)
  counted = (backward-kept a d).done-count done

  -- as numbers the points are the output's first ones
  pub done-numbers : take (2 * r.count) out-after ≡ flat_points (backward_points a)
  done-numbers = first-numbers points-layout (backward_points a) counted starts

  -- and it is otherwise unchanged
  pub done-rest : drop (2 * r.count) out-after ≡ drop (2 * r.count) out
  done-rest = past-numbers points-layout (backward_points a) counted starts

  -- on 0 the output holds the points at its start
  pub done-points : points_listed r out-after ≡ backward_points a
  done-points = first-items points-layout (backward_points a) counted starts

  -- the count is of the points written, each once, in order of y, then x
  pub done-rising : let points = points_listed r out-after in (r.count ≡ length points) × (rising points ≡ true)
  done-rising = rw done-points (counted, back-rising (rects_of a))

  -- a point is written exactly when it is a corner of an odd number of the rectangles
  pub done-corners : (p : Point) → any (same p) (points_listed r out-after) ≡ odd_corner (rects_of a) p
  done-corners = rw done-points (back-points (rects_of a))

  -- the points mark exactly the cells that lie in an odd number of the rectangles
  pub done-marks : (x y : ℤ) → marks (points_listed r out-after) x y ≡ odd (holds x y) (rects_of a)
  done-marks = rw done-points (back-marks (rects_of a) ((backward-accepted a (length out)).0 checks-accept).rects)
