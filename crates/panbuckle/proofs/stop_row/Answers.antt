-- `panbuckle::stop_row` meets its contract.
use native.Mathlib.Omega.{arith}
use mathlib.Core.Path.{ap, ◌∙◌}
use Rattle.plane.proofs.Order.{order}
use Rattle.plane.proofs.Bits.{back}
use Rattle.panbuckle.proofs.StopRow.{even-first, even-on, over-stops, odd-stops}
use Rattle.panbuckle.proofs.stop_row.Goals as goal

pub loop-low-init : goal.loop-low-init
loop-low-init c = even-first c.requires

pub returns-in-Some : goal.returns-in-Some
returns-in-Some c =
    let o = c.gather.ensures in
    odd-stops c.requires c.first_over-over.ensures c.loop-low.invariant o.odd_beside o.between (rw c.in-Some.is at c.lowest.ensures)

pub loop-low-smaller : goal.loop-low-smaller
loop-low-smaller c =
    let end = ap (λ r. r.end.y) c.rows.view_is in
    let above = c.gather.ensures.between.above in
    let to = c.gather.ensures.between.not-above in
    rw (ap (λ r. r.end) c.rows.view_is) (omega order)

pub loop-low-preserved : goal.loop-low-preserved
loop-low-preserved c = rw (ap (λ r. r.end) c.rows.view_is) (even-on c.loop-low.invariant c.gather.ensures.odd_beside (rw c.in_default.is at c.lowest.ensures))

pub returns : goal.returns
returns c =
    c.corner.ensures ∙ over-stops c.requires c.first_over-over.ensures c.loop-low.invariant (rw (back c.loop-low.low.y (omega arith), back c.first_over-over.result.y (omega arith)) at c.loop-low-test.false)
