-- `sweep::Sweep::turn` meets its contract.
use native.Mathlib.Omega.{arith}
use mathlib.Core.Path.{◌≡◌, refl, sym, ap, ◌∙◌}
use mathlib.Core.Bool.{true}
use mathlib.Core.Logic.{inl, inr}
use lib.Signed.{le_z}
use Prim.Native.Nat.{◌-◌}
use Rattle.plane.proofs.Bits.{back}
use Rattle.sweep.specs.declared.Sweep.{Sweep}
use Rattle.sweep.specs.Inner.{with_stacks, at_row}
use Rattle.sweep.proofs.Turning.{turning-none, turning-same, turning-next, turning-done}
use Rattle.sweep.proofs.Sweep.turn.Goals as goal
use Rattle.sweep.proofs.Sweep.turn.Goals.{else-loop-self-test, then-loop-self-test+then-k-p}

pub loop-self-init : goal.loop-self-init
loop-self-init c = (refl, turning-none c.args.self.now c.args.work.now)

pub live_at-k-requires : goal.live_at-k-requires
live_at-k-requires c = let t = c.loop-self.invariant.1 in omega (arith, t.fewer, t.more, t.kept-past.same_length)

pub put_four-requires : goal.put_four-requires
put_four-requires c = let t = c.loop-self.invariant.1 in omega (arith, t.fewer, t.more, t.kept-past.same_length)

pub loop-self-preserved : goal.loop-self-preserved
loop-self-preserved c =
    let z = c.loop-self.self in
    let k = c.live_at-k.result in
    let t = turning-next {i = z.passed - 1} {j = z.ahead - 1} c.requires.0 c.requires.1 (omega arith) (omega (arith, c.loop-self.invariant.1.fewer, c.loop-self.invariant.1.more)) c.loop-self.invariant.1 in
    (ap (λ (y : Sweep). with_stacks y (z.passed - 1) (z.ahead - 1)) c.loop-self.invariant.0, rw (c.put_four.ensures, back k.left (omega arith), back k.right (omega arith), back k.row (omega arith), back k.place (omega arith), c.live_at-k.ensures) t)

pub returns : goal.returns
returns c =
    let i = c.loop-self.invariant in
    let p = c.args.p in
    let e = ap (λ (y : Sweep). at_row y p c.loop-self.self.passed c.loop-self.self.ahead) i.0 in
    rw (back p.y (omega arith)) (turning-done p i.1 e (elim c.loop-self-test.branch [
      | else-loop-self-test w ↦ (let n = w.loop-self-test.false in inl (omega arith))
      | then-loop-self-test+then-k-p w ↦ (let same = w.live_at-k.ensures ∙ turning-same i.1 (c.loop-self.self.passed - 1) (let some = w.loop-self-test.true in omega arith) in
          let left : le_z w.live_at-k.result.right p.x ≡ true = sym (rw (back w.live_at-k.result.right (omega arith), back p.x (omega arith)) refl) ∙ w.if-k-p.true in
          inr (rw (← same) left))
    ]))
