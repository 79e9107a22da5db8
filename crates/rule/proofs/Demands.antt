-- Document 01's sentences of whole arrays, with their limits, over what the entry points answer and leave: demand 3, the sums, and both
-- directions one after the other.
use mathlib.Core.Path.{◌≡◌, refl, ap, ◌∙◌}
use mathlib.Core.Logic.{◌↔◌}
use Prim.Native.Nat.{ℕ, ◌*◌, ◌/◌, ◌≤◌}
use native.Mathlib.Omega.{arith}
use mathlib.Core.List.{List, ◌++◌}
use lib.ListN.{length, drop}
use lib.IntN.{ℤ}
use Rattle.plane.specs.declared.Point.{Point}
use Rattle.plane.specs.Lists.{bit, count, odd}
use Rattle.plane.specs.Words.{range_size, marks, holds, cells, points_of, flat_points, rects_of, flat_rects, in_order, rect_size, most_points, most_rects}
use Rattle.plane.specs.Edge.{unit_sides}
use Rattle.plane.specs.Remaining.{Balanced}
use Rattle.plane.proofs.Arrays.{length-points, points-flat, length-flat-points, rects-flat, length-flat-rects}
use Rattle.plane.proofs.Rising.{in_order-length}
use Rattle.plane.proofs.Remaining.{remaining-few, remaining-marks}
use Rattle.entry.specs.Checks.{Verdict, accepted, refused, verdict}
use Rattle.rule.specs.Rule.{rule_list}
use Rattle.rule.specs.Back.{back_list}
use Rattle.rule.specs.ForwardCall.{forward_says, forward_answer, forward_checks, ForwardAccepted, points_remaining, forward_list, forward_sums}
use Rattle.rule.specs.BackwardCall.{backward_answer, backward_out, backward_checks}
use Rattle.rule.specs.Rows.{Accepted, AcceptedRects}
use Rattle.rule.proofs.ForwardCall.{forward-accepts, forward-accepted}
use Rattle.rule.proofs.BackwardCall.{backward-accepts, backward-accepted}
use Rattle.rule.proofs.Remaining.{accepted-balanced, accepted-remain, remaining-accepted, remaining-covers, remaining-canon}
use Rattle.rule.proofs.Rising.{rule-rects}
use Rattle.rule.proofs.Area.{rule-area, rule-area-most, rule-edge, rule-edge-most}
use Rattle.rule.proofs.Backward.{back-accepted}
use Rattle.rule.proofs.RoundTrip.{forward-backward, backward-forward}

-- ---- Forward, where it answers 0

module _ (a : List ℤ) (work out : ℕ) (done : (forward_answer a work out).answer ≡ 0) where
  -- the checks accept
  pub forward-verdict : verdict (forward_checks a work out) ≡ accepted
  forward-verdict = (forward-accepts a work out).0 done

  -- the points as given are in range, with every row and every column even
  pub array-balanced : Balanced (points_of a)
  array-balanced = ((forward-accepted a work out).0 forward-verdict).points

  -- so those that remain are accepted
  pub array-accepted : Accepted (points_remaining a)
  array-accepted = remaining-accepted (points_of a) array-balanced

  -- demand 3, first half: each unit cell is in one rectangle of the list if the points mark it, in none otherwise
  pub forward-covers : (x y : ℤ) → count (holds x y) (forward_list a) ≡ bit (marks (points_of a) x y)
  forward-covers = remaining-covers (points_of a) array-balanced

  -- the area is the number of marked cells
  pub forward-area : (forward_answer a work out).area ≡ cells (marks (points_of a))
  unfolding forward_answer
  forward-area = rw (forward-verdict, ← remaining-marks (points_of a)) (rule-area (points_remaining a) array-accepted)

  -- the edge is the number of unit sides with a marked cell on exactly one side
  pub forward-edge : (forward_answer a work out).edge ≡ unit_sides (marks (points_of a))
  unfolding forward_answer
  forward-edge = rw (forward-verdict, ← remaining-marks (points_of a)) (rule-edge (points_remaining a) array-accepted)

-- demand 3, second half: two arrays that forward accepts have equal lists exactly when they mark the same cells
pub forward-canon : (a b : List ℤ) (wa oa wb ob : ℕ) → (forward_answer a wa oa).answer ≡ 0 → (forward_answer b wb ob).answer ≡ 0 → (forward_list a ≡ forward_list b) ↔ ((x y : ℤ) → marks (points_of a) x y ≡ marks (points_of b) x y)
forward-canon a b wa oa wb ob da db = remaining-canon (points_of a) (points_of b) (array-balanced a wa oa da) (array-balanced b wb ob db)

-- whatever is given, the area is at most 4·10^18 and the edge at most 4,096 · 2·10^9
pub forward-sums-fit : (a : List ℤ) (work out : ℕ) → ((forward_answer a work out).area ≤ 4_000_000_000_000_000_000) × ((forward_answer a work out).edge ≤ most_points * range_size)
unfolding forward_answer
forward-sums-fit a work out = go (verdict (forward_checks a work out)) (λ e. (forward-accepted a work out).0 e)
  where
    go : (v : Verdict) → (v ≡ accepted → ForwardAccepted a work out) → ((forward_says v (forward_sums a)).area ≤ 4_000_000_000_000_000_000) × ((forward_says v (forward_sums a)).edge ≤ most_points * range_size)
    go accepted h =
        let c = h refl in
        let left = remaining-accepted (points_of a) c.points in
        (rule-area-most (points_remaining a) left, omega (arith, rule-edge-most (points_remaining a) left, remaining-few (points_of a), length-points a, c.few))
    go (refused k p) h = (omega arith, omega arith)

-- ---- Forward and then backward

-- read as an array, the list gives the points in order
list_back : (ps : List Point) → Accepted ps → back_list (rects_of (flat_rects (rule_list ps))) ≡ in_order ps
list_back ps acc = ap back_list (rects-flat (rule_list ps)) ∙ forward-backward ps acc

-- backward accepts a list of forward's, where it has at most 16,384 rectangles and there is room for the points
list-accepted : (ps : List Point) → Accepted ps → (out : ℕ) → length (rule_list ps) ≤ most_rects → length ps ≤ out / 2 → verdict (backward_checks (flat_rects (rule_list ps)) out) ≡ accepted
list-accepted ps acc out few room =
    let rs = rule_list ps in
    let four = length-flat-rects rs in
    (backward-accepted (flat_rects rs) out).1 (record { even = omega arith; few = omega arith; rects = rw (rects-flat rs) (rule-rects ps acc); room = rw (list_back ps acc) (omega (arith, in_order-length ps acc.once)) })

-- where the list has at most 16,384 rectangles and there is room, it gives the points that remain, in order of y, then x
pub forward-then-backward :
    (a : List ℤ) (work out : ℕ) (points : List ℤ) → (forward_answer a work out).answer ≡ 0 → let n = length (points_remaining a) in length (forward_list a) ≤ most_rects → 2 * n ≤ length points →
    let list = flat_rects (forward_list a) in
    (backward_answer list (length points) ≡ record { answer = 0; place = 0; count = n }) × (backward_out list points ≡ flat_points (in_order (points_remaining a)) ++ drop (2 * n) points)
forward-then-backward a work out points done few room =
    let ps = points_remaining a in
    let acc : Accepted ps = array-accepted a work out done in
    let many : length (in_order ps) ≡ length ps = in_order-length ps acc.once in
    let all : length (flat_points (in_order ps)) ≡ 2 * length ps = omega (arith, length-flat-points (in_order ps), many) in
    let ok = list-accepted ps acc (length points) few (omega arith) in
    (rw (ok, list_back ps acc, many), rw (ok, list_back ps acc, all))

-- ---- Backward and then forward

-- the rectangles that backward read
rects-accepted : (r : List ℤ) (points : ℕ) → (backward_answer r points).answer ≡ 0 → AcceptedRects (rects_of r)
rects-accepted r points done = ((backward-accepted r points).0 ((backward-accepts r points).0 done)).rects

-- the points that backward answers are accepted
points-back : (r : List ℤ) (points : ℕ) → (backward_answer r points).answer ≡ 0 → Accepted (back_list (rects_of r))
points-back r points done = back-accepted (rects_of r) (rects-accepted r points done)

-- so all remain, and forward's list of them is the rule's
list-of-back : (r : List ℤ) (points : ℕ) → (backward_answer r points).answer ≡ 0 → forward_list (flat_points (back_list (rects_of r))) ≡ rule_list (back_list (rects_of r))
list-of-back r points done = rw (points-flat (back_list (rects_of r))) (ap rule_list (accepted-remain (points-back r points done)))

-- forward accepts them, where they are at most 4,096 and there is room
pub backward-then-forward : (r : List ℤ) (points work out : ℕ) → (backward_answer r points).answer ≡ 0 → let ps = back_list (rects_of r) in length ps ≤ most_points → 2 * length ps ≤ work → length (forward_list (flat_points ps)) ≤ out / rect_size → (forward_answer (flat_points ps) work out).answer ≡ 0
backward-then-forward r points work out done few working room =
    let ps = back_list (rects_of r) in
    let two = length-flat-points ps in
    (forward-accepts (flat_points ps) work out).1 ((forward-accepted (flat_points ps) work out).1 (record { even = omega arith; few = omega arith; working = omega arith; points = rw (points-flat ps) (accepted-balanced (points-back r points done)); room = room }))

-- two rectangle lists that backward accepts have equal forward lists exactly when the same cells lie in an odd number of rectangles of each
pub two-lists : (r s : List ℤ) (pr ps : ℕ) → (backward_answer r pr).answer ≡ 0 → (backward_answer s ps).answer ≡ 0 → (forward_list (flat_points (back_list (rects_of r))) ≡ forward_list (flat_points (back_list (rects_of s)))) ↔ ((x y : ℤ) → odd (holds x y) (rects_of r) ≡ odd (holds x y) (rects_of s))
two-lists r s pr ps dr ds = rw (list-of-back r pr dr, list-of-back s ps ds) (backward-forward (rects_of r) (rects_of s) (rects-accepted r pr dr) (rects-accepted s ps ds))
