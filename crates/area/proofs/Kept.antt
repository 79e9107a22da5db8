-- Of whatever meets the contract of count_marked: each refusal comes exactly when its rule says so, and 0 exactly when the points are few enough and
-- balanced; then the count is the number of cells that they mark, repeated points and all.
use mathlib.Core.Path.{◌≡◌, refl, ap}
use mathlib.Core.Logic.{◌↔◌, ◌≢◌}
use Prim.Native.Nat.{◌≤◌}
use native.Mathlib.Omega.{arith}
use mathlib.Core.List.{List}
use lib.ListN.{length}
use lib.IntN.{ℤ}
use Rattle.plane.specs.Words.{most_points, points_of, marks, cells, most_cells}
use Rattle.plane.specs.Remaining.{Balanced}
use Rattle.plane.proofs.Grid.{cells-most}
use Rattle.plane.proofs.Outcomes.{one-outcome}
use Rattle.entry.specs.Checks.{verdict}
use Rattle.entry.specs.Entry.{counted, Answers, Counted}
use Rattle.entry.proofs.Verdicts.{verdict-case}
use Rattle.entry.proofs.Entry.{counted-refused}
use Rattle.rule.specs.Rows.{balance_checks, few_then}
use Rattle.rule.proofs.Rows.{balance-accepted}
use Rattle.checks.proofs.Kept.{order-answers, order-done-exactly-when}
use Rattle.area.specs.Area.{area_says}

module _ (a : List ℤ) {r : Counted} (d : r ≡ area_says (points_of a)) where
  -- the number and the place are what forward's checks of the points give
  pub area-answers : Answers (few_then balance_checks (points_of a)) r.answer r.place
  area-answers = rw d (order-answers a refl)

  -- 0 comes exactly when the points are at most 4,096 and in range, with every row and every column even
  pub area-done-exactly-when : (r.answer ≡ 0) ↔ ((length (points_of a) ≤ most_points) × Balanced (points_of a))
  area-done-exactly-when = rw d (order-done-exactly-when a refl)

  -- and then the count is the number of cells that they mark
  pub area-cells : r.answer ≡ 0 → r.count ≡ cells (marks (points_of a))
  area-cells z = rw (d, (balance-accepted (points_of a)).1 (area-done-exactly-when.0 z))

  -- which is 0 on a refusal
  pub area-refused : r.answer ≢ 0 → r.count ≡ 0
  area-refused n = ap (λ (s : Counted). s.count) (counted-refused (verdict (few_then balance_checks (points_of a))) (cells (marks (points_of a))) d n).1

  -- and never more than the range's cells
  pub area-most : r.count ≤ most_cells
  area-most = rw d (verdict-case (λ v. (counted v (cells (marks (points_of a)))).count ≤ most_cells) (verdict (few_then balance_checks (points_of a))) (λ _. cells-most (marks (points_of a))) (λ _ _ _. omega arith))

  -- there is no second outcome
  pub area-one-outcome : {s : Counted} → s ≡ area_says (points_of a) → r ≡ s
  area-one-outcome e = one-outcome d e
