-- `outline::odd_ones` meets its contract.
use Prim.Native.Nat.{ℕ, ◌-◌, ◌<◌}
use native.Mathlib.Omega.{arith}
use mathlib.Core.List.{Memᴰ as In}
use lib.ListN.{get_or, take}
use Rattle.outline.proofs.Cancelling.{cancels-none, cancels-last, cancels-more, cancels-all, all-below, none-kept}
use Rattle.outline.proofs.odd_ones.Goals as goal
use Rattle.outline.proofs.odd_ones.Goals.{then-left-gt0+then-keys-left, else-left-gt0, else-left-gt0-via-then-left-gt0+else-keys-left, else-left-gt0-via-else-left-gt0}

pub loop-i-init : goal.loop-i-init
loop-i-init c = (omega arith, cancels-none c.args.keys.now c.sort.ensures)

pub loop-i-preserved : goal.loop-i-preserved
loop-i-preserved c =
    let l = c.loop-i in
    let so-far = l.invariant.1 in
    let last = l.left - 1 in
    elim c.if-left-gt0.branch [
      | then-left-gt0+then-keys-left w ↦ rw (w.keys-is, w.left-is) (omega arith, cancels-last so-far c.loop-i-test.true last (omega arith) (omega arith) w.if-keys-left.true)
      | else-left-gt0 w ↦
          let high : (j : ℕ) → In j (take l.left l.keys) → j < get_or c.sort.new.a l.i 0 = elim w.else-left-gt0.branch [
            | else-left-gt0-via-then-left-gt0+else-keys-left v ↦ all-below so-far c.loop-i-test.true last (omega arith) (omega arith) v.if-keys-left.false
            | else-left-gt0-via-else-left-gt0 v ↦ none-kept so-far c.loop-i-test.true (omega arith)
          ] in rw (w.keys-is, w.left-is) (omega arith, cancels-more so-far c.loop-i-test.true l.invariant.0 high)
    ]

pub returns-clause-odd_ones : goal.returns-clause-odd_ones
returns-clause-odd_ones c = cancels-all c.args.keys.now c.sort.ensures (omega arith) c.loop-i.invariant.1
