-- `sweep::Sweep::cut` meets its contract.
use native.Mathlib.Omega.{arith}
use mathlib.Core.Path.{◌≡◌, sym, ap, ◌∙◌}
use mathlib.Core.Bool.{true, false, cond}
use mir.Syntax.{w32}
use mir.Val.{of_z, to_z}
use borrow.Author.Tests.{eq-eqb, ne_eqb}
use Rattle.plane.specs.Words.{eq_z}
use Rattle.plane.proofs.Bits.{eq-bits, back}
use Rattle.sweep.specs.Inner.{nearer, taken_from, end_put, end_put_work, carrying}
use Rattle.sweep.proofs.Sweep.cut.Goals as goal
use Rattle.sweep.proofs.Sweep.cut.Goals.{then-nearer-k, else-nearer-k, After-nearer}

-- a local has the number of its bits
t-kept : (n : After-nearer) → to_z w32 (of_z w32 n.args.t) ≡ n.args.t
t-kept n = back n.args.t n.ranges.t.sfits

-- whether the left end goes with the nearer one
meets : (n : After-nearer) → eq_z n.nearer.result n.args.k.left ≡ eq_z (nearer n.args.self.now n.args.t) n.args.k.left
meets n = ap (λ x. eq_z x n.args.k.left) (n.nearer.ensures ∙ ap (nearer n.args.self.now) (t-kept n))

pub returns : goal.returns
returns c =
    let z = c.args.self.now in
    let k = c.args.k in
    let n = (goal.at.returns c).After-nearer in
    let left-kept = back k.left (omega arith) in
    let bits = eq-bits c.nearer.result k.left (omega arith) (omega arith) in
    let is : (c.if-nearer-k.self ≡ cond (eq_z (nearer z c.args.t) k.left) (taken_from z c.args.t) (end_put z k.left)) × (c.if-nearer-k.work ≡ cond (eq_z (nearer z c.args.t) k.left) c.args.work.now (end_put_work c.args.work.now z k.left)) =
    elim c.if-nearer-k.branch [
      | then-nearer-k w ↦ (let e : eq_z (nearer z c.args.t) k.left ≡ true = sym (meets n) ∙ sym bits ∙ eq-eqb _ _ w.if-nearer-k.true in rw e (w.self-is ∙ w.take.ensures ∙ ap (taken_from z) (t-kept n), w.work-is))
      | else-nearer-k w ↦ (let e : eq_z (nearer z c.args.t) k.left ≡ false = sym (meets n) ∙ sym bits ∙ ne_eqb _ _ w.if-nearer-k.false in rw e (w.self-is ∙ w.put_end.ensures.value ∙ ap (end_put z) left-kept, w.work-is ∙ w.put_end.ensures.work_after ∙ ap (end_put_work c.args.work.now z) left-kept))
    ] in
    record { value = rw (back k.right (omega arith)) (ap (λ s. carrying s k) is.0); work_after = is.1 }
