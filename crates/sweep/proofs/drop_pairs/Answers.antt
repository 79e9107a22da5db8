-- `sweep::drop_pairs` meets its contract.
use Prim.Native.Nat.{◌+◌, ◌<◌}
use native.Mathlib.Omega.{arith}
use mathlib.Core.Path.{sym, ◌∙◌}
use lib.ListN.{length}
use borrow.Author.Rules.{rules}
use Rattle.plane.specs.Words.{points_of}
use Rattle.plane.proofs.Pairs.{Drops, drops-none, drops-both, drops-one, drops-all}
use Rattle.sweep.specs.Inner.{same_place}
use Rattle.sweep.proofs.drop_pairs.Goals as goal
use Rattle.sweep.proofs.drop_pairs.Goals.{In-loop-i, Then-is_paired}

pub loop-i-init : goal.loop-i-init
loop-i-init c = drops-none _ _

-- a place that is reached is one of the array
reached : (c : In-loop-i) → c.loop-i.i < length c.loop-i.order
reached c = c.loop-i-test.true

-- two of equal points are passed
passed : (c : Then-is_paired) → let s = c.args in Drops (same_place (points_of s.given.now)) s.order.now c.loop-i.left (c.loop-i.i + 2) c.loop-i.order
passed c =
    drops-both _ _ 0 c.loop-i.invariant (omega (arith, c.loop-i.invariant.same_length, c.loop-i-test.true)) (sym c.is_paired.ensures ∙ c.if-is_paired.true)

pub overflow_add-i : goal.overflow_add-i
overflow_add-i c = let most = (passed c).within in search rules

pub loop-i-smaller-then-is_paired : goal.loop-i-smaller-then-is_paired
loop-i-smaller-then-is_paired c = omega (arith, (passed c).within)

pub bounds-order-left : goal.bounds-order-left
bounds-order-left c = omega (arith, reached (goal.at.bounds-order-left c).In-loop-i, c.loop-i.invariant.left-within)

pub loop-i-preserved : goal.loop-i-preserved
loop-i-preserved c =
    drops-one _ _ 0 c.loop-i.invariant (omega (arith, c.loop-i.invariant.same_length, c.loop-i-test.true)) (sym c.is_paired.ensures ∙ c.if-is_paired.false)

pub returns : goal.returns
returns c =
    let d = drops-all _ _ (omega (arith, c.loop-i.invariant.within, c.loop-i.invariant.same_length)) c.loop-i.invariant in
    record { value = d.0; order_after = d.1 }

pub is_paired-requires : goal.is_paired-requires
is_paired-requires c = reached (goal.at.is_paired-requires c).In-loop-i

pub shape_of-order : goal.shape_of-order
shape_of-order c = c.loop-i.invariant.same_length

pub loop-i-preserved-then-is_paired : goal.loop-i-preserved-then-is_paired
loop-i-preserved-then-is_paired c = passed (goal.at.loop-i-preserved-then-is_paired c).Then-is_paired
