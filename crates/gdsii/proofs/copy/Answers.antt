-- `gdsii::copy` meets its contract.
use Prim.Native.Nat.{ℕ, suc, ◌<◌, ◌≤◌}
use native.Mathlib.Nat.{zero-add}
use native.Mathlib.Numerals.{add-one}
use native.Mathlib.Omega.{arith}
use mathlib.Core.Path.{◌≡◌, subst, ◌∙◌}
use mathlib.Core.List.{List}
use lib.ListN.{length, get_or, set}
use lib.IntN.{ℤ, pos}
use lib.Seq.{take-length, paste, paste-zero, paste-suc}
use Rattle.plane.proofs.Bits.{back}
use Rattle.gdsii.proofs.copy.Goals as goal

pub loop-i-init : goal.loop-i-init
loop-i-init c = paste-zero c.args.out.now 0 c.args.numbers.now

-- one number more
copied_next : (numbers out : List ℤ) (i : ℕ) → i < length numbers → length numbers ≤ length out → set (paste out 0 numbers i) i (get_or numbers i (pos 0)) ≡ paste out 0 numbers (suc i)
copied_next numbers out i h room = subst (λ (j : ℕ). set (paste out 0 numbers i) j (get_or numbers i (pos 0)) ≡ paste out 0 numbers (suc i)) (zero-add i) (paste-suc out 0 numbers i (pos 0) (omega arith) h)

pub loop-i-preserved : goal.loop-i-preserved
loop-i-preserved c =
    let l = c.loop-i in
    let a = c.args in
    rw (l.invariant, add-one, back (get_or a.numbers.now l.i (pos 0)) (omega arith)) (copied_next a.numbers.now a.out.now l.i (omega arith) (omega arith))

pub returns : goal.returns
returns c =
    let l = c.loop-i in
    let a = c.args in
    let e : l.i ≡ length a.numbers.now = omega arith in
    l.invariant ∙ rw (e, take-length a.numbers.now, zero-add (length a.numbers.now))
