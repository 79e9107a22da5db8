-- The customer's demands 2 and 3, of whatever meets the contract of forward: of the answer that the caller gets, and of the output as the
-- caller finds it afterwards; and what a step keeps. Demand 1 is said of each call in the crate `rule`.
use mathlib.Core.Path.{◌≡◌, refl, sym, ap, fun_ext, ◌∙◌}
use mathlib.Core.Logic.{◌↔◌}
use Prim.Native.Nat.{ℕ, ◌-◌, ◌*◌, ◌/◌, ◌≤◌}
use native.Mathlib.Omega.{arith}
use mathlib.Core.Bool.{true}
use mathlib.Core.List.{List, [], ◌∷◌, map}
use lib.ListN.{length, take, drop, length-take}
use lib.IntN.{ℤ}
use Rattle.plane.specs.declared.Point.{Point}
use Rattle.plane.specs.declared.Rect.{Rect}
use Rattle.plane.specs.Lists.{bit, count, sum, Starts}
use Rattle.plane.specs.Words.{points_of, flat_rects, rising, lower_left, area_of, edge_of, holds, marks, cells, rect_size}
use Rattle.plane.specs.Edge.{edge_length, unit_sides}
use Rattle.plane.proofs.Arrays.{length-points}
use Rattle.plane.proofs.Remaining.{remaining-edge}
use Rattle.plane.proofs.AtStart.{rects-layout, first-numbers, past-numbers, first-items}
use Rattle.entry.specs.Checks.{accepted}
use Rattle.rule.specs.Rule.{step, row_count}
use Rattle.rule.specs.ForwardCall.{forward_says, forward_answer, ForwardDone, list_of, points_remaining, forward_list, forward_sums, sums_told, ForwardAnswer}
use Rattle.rule.specs.StepCall.{step_number, StepDone, Rectangle}
use Rattle.rule.specs.Rows.{Accepted, AcceptedRects}
use Rattle.rule.proofs.ForwardCall.{forward-leaves}
use Rattle.rule.proofs.StepCall.{step-accepts, step-accepted, taken_step}
use Rattle.rule.proofs.Steps.{accepted-step}
use Rattle.rule.proofs.Working.{work-points}
use Rattle.rule.proofs.Bound.{rule-bound}
use Rattle.rule.proofs.Cover.{rule-covers}
use Rattle.rule.proofs.Rising.{rule-rising, rule-rects}
use Rattle.rule.proofs.Area.{rule-edge-seams, rule-edge-one}
use Rattle.rule.proofs.Demands.{forward-verdict, array-balanced, array-accepted, forward-covers, forward-area, forward-edge, forward-canon}

-- ---- Demand 2: the list is the one given by the rule, rectangle for rectangle

module _ {a work out : List ℤ} {r : ForwardAnswer} {work-after out-after : List ℤ} (d : ForwardDone a work out r work-after out-after) (done : r.answer ≡ 0) where
  -- 0 is what the definition answers
  pub answers-0 : (forward_answer a (length work) (length out)).answer ≡ 0
  answers-0 = rw d.answer at done

  -- the points that remain are accepted
  remaining-taken : Accepted (points_remaining a)
  remaining-taken = array-accepted a (length work) (length out) answers-0

  -- the answer is that of the rule's list
  answers-list : r ≡ forward_says accepted (forward_sums a)
  unfolding forward_answer
  answers-list = rw (d.answer, forward-verdict a (length work) (length out) answers-0)

  -- the output starts with the list, and its rectangles are counted
  starts : Starts (flat_rects (forward_list a)) out out-after
  starts = (forward-leaves d).done-starts done

  counted : r.count ≡ length (forward_list a)
  counted = rw answers-list

  -- on 0 the output holds the rule's list at its start
  pub done-list : list_of r out-after ≡ forward_list a
  done-list = first-items rects-layout (forward_list a) counted starts

  -- as numbers the list is the output's first ones
  pub done-numbers : take (rect_size * r.count) out-after ≡ flat_rects (forward_list a)
  done-numbers = first-numbers rects-layout (forward_list a) counted starts

  -- and the output is otherwise unchanged
  pub done-rest : drop (rect_size * r.count) out-after ≡ drop (rect_size * r.count) out
  done-rest = past-numbers rects-layout (forward_list a) counted starts

  -- it tells the sums of the rule's list
  pub done-told : sums_told r ≡ forward_sums a
  done-told = rw answers-list

  -- the count and the area (the sum of W·H) are those of the rectangles written
  pub done-sums : let list = list_of r out-after in (r.count ≡ length list) × (r.area ≡ sum area_of list)
  done-sums = rw (done-list, answers-list) (refl, refl)

  -- n points that remain, on r different rows, have at most (n/2)·(r-1) rectangles
  pub done-bound : r.count ≤ length (points_remaining a) / 2 * (row_count (points_remaining a) - 1)
  done-bound = rw answers-list (rule-bound (points_remaining a) remaining-taken)

  -- they come in strictly rising order of (Y, X), each with W and H at least 1, and X, Y, X+W, Y+H in range
  pub done-rising : let list = list_of r out-after in (rising (map lower_left list) ≡ true) × AcceptedRects list
  done-rising = rw done-list (rule-rising (points_remaining a) remaining-taken, rule-rects (points_remaining a) remaining-taken)

  -- ---- Demand 3: the list covers exactly the marked cells, each once, and goes by them alone

  -- each unit cell is in exactly one rectangle if an odd number of points lie at or left of, and at or below, its lower left corner;
  -- otherwise in none: of the points as given
  pub done-covers : (x y : ℤ) → count (holds x y) (list_of r out-after) ≡ bit (marks (points_of a) x y)
  done-covers = rw done-list (forward-covers a (length work) (length out) answers-0)

  -- and of those that remain
  pub done-covers-remaining : (x y : ℤ) → count (holds x y) (list_of r out-after) ≡ bit (marks (points_remaining a) x y)
  done-covers-remaining = rw done-list (rule-covers (points_remaining a) remaining-taken)

  -- the area is the number of marked cells
  pub done-area : r.area ≡ cells (marks (points_of a))
  done-area = rw d.answer (forward-area a (length work) (length out) answers-0)

  -- ---- Request 1: the edge is the outline of the marked cells

  -- on each row the points that remain by rising x in pairs, the distances added, and the same by columns
  pub done-edge : r.edge ≡ edge_length (points_remaining a)
  done-edge = rw answers-list

  -- the points as given have the same
  pub done-edge-given : r.edge ≡ edge_length (points_of a)
  done-edge-given = done-edge ∙ remaining-edge (points_of a) (array-balanced a (length work) (length out) answers-0)

  -- that is the number of unit sides with a marked cell on exactly one side
  pub done-edge-sides : r.edge ≡ unit_sides (marks (points_of a))
  done-edge-sides = rw d.answer (forward-edge a (length work) (length out) answers-0)

  -- it is at most the sum of 2·(W+H) over the list: where two rectangles abut, nothing counts
  pub done-edge-seams : r.edge ≤ sum edge_of (list_of r out-after)
  done-edge-seams = rw (done-list, done-edge) (rule-edge-seams (points_remaining a) remaining-taken)

  -- and for one rectangle it is 2·(W+H)
  pub done-edge-one : (q : Rect) → list_of r out-after ≡ q ∷ [] → r.edge ≡ edge_of q
  done-edge-one q e = done-edge ∙ rule-edge-one (points_remaining a) remaining-taken q (sym done-list ∙ e)

module _ {a work out : List ℤ} {r : ForwardAnswer} {work-after out-after : List ℤ} (d : ForwardDone a work out r work-after out-after)
    {b work' out' : List ℤ} {s : ForwardAnswer} {work'-after out'-after : List ℤ} (e : ForwardDone b work' out' s work'-after out'-after) where
  -- two arrays with answer 0 get equal lists exactly when they mark the same cells, in any order and with any repetition of points
  pub done-canon : r.answer ≡ 0 → s.answer ≡ 0 → (list_of r out-after ≡ list_of s out'-after) ↔ ((x y : ℤ) → marks (points_of a) x y ≡ marks (points_of b) x y)
  done-canon done done' = rw (done-list d done, done-list e done') (forward-canon a b (length work) (length out) (length work') (length out') (answers-0 d done) (answers-0 e done'))

  -- then they have equal edges
  pub done-edge-canon : r.answer ≡ 0 → s.answer ≡ 0 → ((x y : ℤ) → marks (points_of a) x y ≡ marks (points_of b) x y) → r.edge ≡ s.edge
  done-edge-canon done done' same = done-edge-sides d done ∙ ap unit_sides (fun_ext (λ x. fun_ext (λ y. same x y))) ∙ sym (done-edge-sides e done')

-- ---- A step

-- a step keeps rows and columns even, points distinct and in range, and never adds to their number
pub step_keeps : {work : List ℤ} {n : ℕ} {q : Rect} {m : ℕ} {work-after : List ℤ} → StepDone work n (Rectangle q m) work-after → Accepted (take m (points_of work-after)) × (m ≤ n)
step_keeps {work} {n} {q} {m} d =
    let c = (step-accepted work n).0 ((step-accepts work n).0 (ap step_number (sym d.answer))) in
    let t = taken_step work n c in
    let left : List Point = (step (take n (points_of work))).left in
    let counted : m ≡ length left = cc (d.answer ∙ t.0) in
    let many : length (take n (points_of work)) ≡ n = omega (arith, length-take n (points_of work), length-points work, c.working) in
    let k = rw many at (accepted-step (take n (points_of work)) (rw many c.some_left) c.points) in
    (rw (d.working, t.1, counted, work-points n left work) k.0, rw counted k.1)
