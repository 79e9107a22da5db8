-- `gdsii::read_gdsii` meets its contract.
use native.Mathlib.Omega.{arith}
use Prim.Native.Nat.{ℕ}
use mathlib.Core.Path.{◌≡◌, ap, subst, ◌∙◌}
use mathlib.Core.List.{List}
use lib.ListN.{replicate}
use lib.IntN.{ℤ, pos}
use Rattle.plane.proofs.Bits.{back}
use Rattle.entry.specs.Entry.{Counted}
use Rattle.gdsii.specs.Walk.{read_all}
use Rattle.gdsii.specs.Call.{scratch_size, ReadDone}
use Rattle.gdsii.specs.Inner.{ReadSays}
use Rattle.gdsii.proofs.read_gdsii.Goals as goal

-- of the layer as it was given, with the scratch array cleared
whole : (t name : List ℕ) (layer : ℤ) {number : ℤ} {out a after : List ℤ} {r : Counted} {n : ℕ} → number ≡ layer → ReadSays (read_all name number t) out r after → n ≡ scratch_size → a ≡ replicate n (pos 0) → ReadDone t name layer out r a after
whole t name layer {out = out} {a} {after} {r} e says sized zeros = record { done = subst (λ (z : ℤ). ReadSays (read_all name z t) out r after) e says; scratch = zeros ∙ ap (λ (m : ℕ). replicate m (pos 0)) sized }

pub returns : goal.returns
returns c =
    let a = c.args in
    whole a.bytes.now a.name.now a.layer (back a.layer (omega arith)) c.read_with-answer.ensures.read_says c.read_with-answer.ensures.scratch_len (c.fill.ensures.after (λ y e. e))
