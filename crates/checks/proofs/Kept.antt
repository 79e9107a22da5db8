-- Of whatever meets the contract of order_points or of check_points: each refusal comes exactly when its rule says so, and 0 exactly when forward or
-- a step accepts the points; and then the count is the number of unit sides.
use mathlib.Core.Path.{◌≡◌}
use mathlib.Core.Logic.Iff
use mathlib.Core.Logic.{◌↔◌}
use Prim.Native.Nat.{ℕ, ◌≤◌}
use native.Mathlib.Omega.{arith}
use mathlib.Core.Bool.{false}
use mathlib.Core.List.{List}
use lib.ListN.{length, take}
use lib.Seq.{take_at}
use lib.IntN.{ℤ}
use borrow.Author.Tests.{le-ltb}
use Rattle.plane.specs.declared.Point.{Point}
use Rattle.plane.specs.Words.{most_points, points_of, marks}
use Rattle.plane.specs.Edge.{unit_sides}
use Rattle.plane.specs.Remaining.{Balanced}
use Rattle.plane.proofs.Edge.{edge-counts}
use Rattle.ordering.specs.Orders.{row_order}
use Rattle.ordering.proofs.Orders.{order-length}
use Rattle.entry.specs.Entry.{Answers, Counted}
use Rattle.entry.proofs.Entry.{Numbered, accepts, answers}
use Rattle.rule.specs.Rows.{balance_checks, point_checks, few_then, points_say, Accepted}
use Rattle.rule.proofs.Rows.{balance-accepted, points-accepted}
use Rattle.rule.proofs.Area.{rule-edge}
use Rattle.checks.specs.Orders.{ordered}

-- forward's checks of the points, and a step's, have numbers
balance-numbered : (ps : List Point) → Numbered (few_then balance_checks ps)
unfolding balance_checks
balance-numbered ps = omega arith

points-numbered : (ps : List Point) → Numbered (few_then point_checks ps)
unfolding point_checks
points-numbered ps = omega arith

-- ---- Whatever meets the contract of order_points

module _ (a : List ℤ) {r : Counted} (d : r ≡ points_say balance_checks (points_of a)) where
  -- the number and the place are what forward's checks of the points give
  pub order-answers : Answers (few_then balance_checks (points_of a)) r.answer r.place
  order-answers = rw d (answers (few_then balance_checks (points_of a)) (balance-numbered (points_of a)))

  -- 0 comes exactly when the points are at most 4,096 and in range, with every row and every column even
  pub order-done-exactly-when : (r.answer ≡ 0) ↔ ((length (points_of a) ≤ most_points) × Balanced (points_of a))
  order-done-exactly-when = rw d (Iff.trans (accepts (few_then balance_checks (points_of a)) (balance-numbered (points_of a))) (balance-accepted (points_of a)))

  -- and then the count is their edge, the number of unit sides with a marked cell on exactly one side
  pub order-edge : r.answer ≡ 0 → r.count ≡ unit_sides (marks (points_of a))
  order-edge z =
      let h = order-done-exactly-when.0 z in
      rw (d, (balance-accepted (points_of a)).1 h) (edge-counts (points_of a) h.1)

-- what order_points leaves of the array that it is lent begins with the places of the points in order, where they are at most 4,096
pub ordered-found : (ps : List Point) (order : List ℕ) → length ps ≤ most_points → take (length ps) (ordered ps order) ≡ row_order ps
ordered-found ps order few = rw (le-ltb most_points (length ps) few) (take_at (row_order ps) _ (length ps) (order-length false ps))

-- ---- Whatever meets the contract of check_points

module _ (a : List ℤ) {r : Counted} (d : r ≡ points_say point_checks (points_of a)) where
  -- the number and the place are what a step's checks of the points give
  pub points-answers : Answers (few_then point_checks (points_of a)) r.answer r.place
  points-answers = rw d (answers (few_then point_checks (points_of a)) (points-numbered (points_of a)))

  -- 0 comes exactly when the points are at most 4,096, in range, none twice, with every row and every column even
  pub points-done-exactly-when : (r.answer ≡ 0) ↔ ((length (points_of a) ≤ most_points) × Accepted (points_of a))
  points-done-exactly-when = rw d (Iff.trans (accepts (few_then point_checks (points_of a)) (points-numbered (points_of a))) (points-accepted (points_of a)))

  -- and then the count is their edge, the number of unit sides with a marked cell on exactly one side
  pub points-edge : r.answer ≡ 0 → r.count ≡ unit_sides (marks (points_of a))
  points-edge z =
      let h = points-done-exactly-when.0 z in
      rw (d, (points-accepted (points_of a)).1 h) (rule-edge (points_of a) h.1)
