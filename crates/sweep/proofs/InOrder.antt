-- The points that remain of an array, at the places that stand in order, stand for the array.
use mathlib.Core.Path.{◌≡◌, refl, ap, ◌∙◌}
use Prim.Native.Nat.{ℕ, ◌/◌, ◌≤◌}
use native.Mathlib.Omega.{arith}
use mathlib.Core.Bool.{false}
use mathlib.Core.List.{List, map}
use lib.ListN.{length}
use lib.IntN.{ℤ}
use Rattle.plane.specs.declared.Point.{Point}
use Rattle.plane.specs.Words.{same, on_row, in_column, points_of, point_at, in_order}
use Rattle.plane.specs.Remaining.{remaining}
use Rattle.plane.proofs.Arrays.{length-points}
use Rattle.plane.proofs.Rising.{rising-once, in_order-rising, in_order-of, in_order-odd, in_order-few}
use Rattle.plane.proofs.Pairs.{map-off, off-length}
use Rattle.plane.proofs.Remaining.{remaining-few, off-remaining}
use Rattle.ordering.specs.Orders.{row_order, points_at}
use Rattle.ordering.proofs.Orders.{order-length, order_same, order-lined}
use Rattle.rule.specs.Rows.{Accepted}
use Rattle.rule.specs.ForwardCall.{ForwardAccepted}
use Rattle.rule.proofs.Remaining.{remaining-accepted}
use Rattle.rule.proofs.Canon.{alike-list}
use Rattle.sweep.specs.Inner.{swept_points, same_place, standing, StandFor}

-- the row order has as many places as there are points
pub order-places : (a : List ℤ) {order : List ℕ} → order ≡ row_order (points_of a) → length order ≡ length a / 2
order-places a e = ap length e ∙ order-length false (points_of a) ∙ length-points a

-- the points at the places of the row order that stand are those that remain, in order
standing-points : (ps : List Point) → map (point_at ps) (standing ps (row_order ps)) ≡ in_order (remaining ps)
standing-points ps = map-off (point_at ps) same (row_order ps) ∙ off-remaining ps (points_at ps (row_order ps)) (order_same false ps) (order-lined false ps)

-- accepted points are accepted in order
in-order-accepted : {ps : List Point} → Accepted ps → Accepted (in_order ps)
in-order-accepted {ps} acc = record {
  range = λ q m. acc.range q (in_order-of ps q m);
  once = rising-once (in_order ps) (in_order-rising ps);
  rows = λ y. in_order-odd (on_row y) ps acc.once ∙ acc.rows y;
  columns = λ x. in_order-odd (in_column x) ps acc.once ∙ acc.columns x;
}

-- the places of the row order that stand do so for the array
pub order-stands : {a : List ℤ} {work out : ℕ} {order : List ℕ} → ForwardAccepted a work out → order ≡ standing (points_of a) (row_order (points_of a)) → StandFor a work order
order-stands {a} {work} {out} {order} acc e =
    let ps : List Point = points_of a in
    let left : List Point = remaining ps in
    let at : swept_points a order ≡ in_order left = rw e (standing-points ps) in
    let no_more : length (in_order left) ≤ length a / 2 = omega (arith, in_order-few left, remaining-few ps, length-points a) in
    let taken = remaining-accepted ps acc.points in
    let ordered = in-order-accepted taken in
    record {
      ready = rw at (record { points = ordered; in_order = in_order-rising left; few = omega (arith, acc.few); working = omega (arith, acc.working) });
      no_more = omega (arith, ap length e, off-length (same_place ps) (row_order ps), order-places a refl);
      same-list = rw at (alike-list (in_order left) left ordered taken (record { parity = λ f. in_order-odd f left taken.once }));
    }
