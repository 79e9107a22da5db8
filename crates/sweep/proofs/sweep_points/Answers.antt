-- `sweep::sweep_points` meets its contract. Past the checks the points are accepted where the list has room; a refusal leaves all as it was.
use Prim.Native.Nat.{ℕ, ◌*◌, ◌/◌, ◌≤◌}
use native.Mathlib.Omega.{arith}
use mathlib.Core.Path.{◌≡◌, refl, sym, ap, ◌∙◌}
use mathlib.Core.List.{List}
use lib.ListN.{length, take, length-take}
use lib.Seq.{length-take-le}
use lib.IntN.{ℤ}
use borrow.Author.Tests.{ne_eqb}
use Rattle.plane.specs.declared.Point.{Point}
use Rattle.plane.specs.Lists.{at_start}
use Rattle.plane.specs.Words.{points_of, rect_size}
use Rattle.plane.specs.Edge.{edge_length}
use Rattle.plane.proofs.AtStart.{start-taken, start-within}
use Rattle.plane.proofs.Remaining.{remaining-edge}
use Rattle.ordering.specs.Orders.{row_order}
use Rattle.entry.specs.Refusals.{number_of}
use Rattle.entry.specs.Checks.{verdict, accepted}
use Rattle.entry.specs.Entry.{counted}
use Rattle.entry.proofs.Entry.{counted-accepted, counted-refused}
use Rattle.rule.specs.ForwardCall.{forward_answer, forward_work, forward_out, ForwardAccepted, points_remaining, forward_list, input_checks}
use Rattle.rule.proofs.ForwardCall.{input-numbered, input-accepted, input-refused, input-refused-not-8}
use Rattle.sweep.specs.Inner.{standing}
use Rattle.entry.proofs.Reasons.{number-some, passed-up}
use Rattle.sweep.proofs.InOrder.{order-places, order-stands}
use Rattle.sweep.proofs.sweep_points.Goals as goal
use Rattle.sweep.proofs.sweep_points.Goals.{In_ok-edge, After-drop_pairs-left}

-- past the checks: the array, and the working array's length
abbrev array : In_ok-edge → List ℤ
array e = e.args.points.now

abbrev work : In_ok-edge → ℕ
work e = length e.args.work.now

-- the checks accept
clear : (e : In_ok-edge) → verdict (input_checks (array e) (work e)) ≡ accepted
clear e = counted-accepted (input_checks (array e) (work e)) (input-numbered (array e) (work e)) (edge_length (points_of (array e))) e.in_ok-edge.ensures.value refl

-- so the points are accepted where the list has room
ready : (e : In_ok-edge) → ForwardAccepted (array e) (work e) (rect_size * length (forward_list (array e)))
ready e = input-accepted (array e) (work e) (clear e)

-- and their places stand in order
in_order : (e : In_ok-edge) → take (length (array e) / 2) e.check_input.new.order ≡ row_order (points_of (array e))
in_order e = e.check_input.ensures.ordered.in_order (clear e)

-- and the count is their edge, which is that of the points that remain
edge-told : (e : In_ok-edge) → e.in_ok-edge.edge ≡ edge_length (points_remaining (array e))
edge-told e =
    let ps = points_of (array e) in
    ap (λ r. r.count) e.in_ok-edge.ensures.value ∙ ap (λ v. (counted v (edge_length ps)).count) (clear e) ∙ sym (remaining-edge ps (ready e).points)

-- there are as many places as points
places-within : (e : In_ok-edge) → length (array e) / 2 ≤ length e.check_input.new.order
places-within e = omega (arith, order-places _ (in_order e), length-take (length (array e) / 2) e.check_input.new.order)

pub slice_bounds-order-end : goal.slice_bounds-order-end
slice_bounds-order-end c = places-within (goal.at.slice_bounds-order-end c).In_ok-edge

pub slice_bounds-drop_pairs-end : goal.slice_bounds-drop_pairs-end
slice_bounds-drop_pairs-end c = sym (length-take-le _ _ (places-within (goal.at.slice_bounds-drop_pairs-end c).In_ok-edge))

-- the places of equal points are dropped
abbrev dropped : After-drop_pairs-left → In_ok-edge
dropped d = (goal.at-After-drop_pairs-left d).In_ok-edge

-- of the points in order
abbrev given : After-drop_pairs-left → List Point
given d = points_of (array (dropped d))

abbrev places : After-drop_pairs-left → List ℕ
places d = standing (given d) (row_order (given d))

-- those that are left are counted, and the array of places begins with them
left-counted : (d : After-drop_pairs-left) → d.drop_pairs-left.result ≡ length (places d)
left-counted d = d.drop_pairs-left.ensures.value ∙ ap (λ o. length (standing (given d) o)) (in_order (dropped d))

left-first : (d : After-drop_pairs-left) → d.drop_pairs-left.new.order ≡ at_start (places d) (row_order (given d))
left-first d = d.drop_pairs-left.ensures.order_after ∙ ap (λ o. at_start (standing (given d) o) o) (in_order (dropped d))

pub slice_bounds-remaining-end : goal.slice_bounds-remaining-end
slice_bounds-remaining-end c =
    let d = (goal.at.slice_bounds-remaining-end c).After-drop_pairs-left in
    sym (length-take-le d.drop_pairs-left.result _ (start-within (places d) (row_order (given d)) _ (left-first d) (left-counted d)))

pub count_then_write-requires : goal.count_then_write-requires
count_then_write-requires c =
    let d = (goal.at.count_then_write-requires c).After-drop_pairs-left in
    let e = dropped d in
    record {
      forward_accepted = ready e;
      stand_for = order-stands (ready e) (start-taken (places d) (row_order (given d)) _ (left-first d) (left-counted d));
      edge_value = edge-told e;
    }

pub returns-in_err-edge : goal.returns-in_err-edge
unfolding forward_answer forward_work forward_out
returns-in_err-edge c =
    let a = c.args.points.now in
    let w = length c.args.work.now in
    let e = c.in_err-edge.field-0.0 in
    let numbered = number-some e.reason in
    let v = (counted-refused (verdict (input_checks a w)) (edge_length (points_of a)) c.in_err-edge.ensures.value numbered).0 in
    let r = input-refused a w (length c.args.rects.now) v in
    let n = ne_eqb (number_of e.reason) 8 (input-refused-not-8 a w v) in
    rw (passed-up c.from_residual.result e c.from_residual.ensures.1) (record { answer = rw r; working = rw (r, n); output = rw r })
