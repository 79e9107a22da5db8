-- `gdsii::put_point` meets its contract.
use Prim.Native.Nat.{◌*◌}
use native.Mathlib.Numerals.{add-one}
use native.Mathlib.Omega.{arith}
use mathlib.Core.Path.{sym, ◌∙◌}
use mathlib.Core.List.{[], ◌∷◌}
use Rattle.plane.proofs.Bits.{back}
use Rattle.plane.proofs.AtPlace.{put-with-room, put-without-room, stored-pasted}
use Rattle.gdsii.proofs.put_point.Goals as goal

pub returns-then-i-a : goal.returns-then-i-a
returns-then-i-a c =
    let a = c.args in
    let pair = a.p.x ∷ a.p.y ∷ [] in
    rw (add-one, back a.p.x (omega arith), back a.p.y (omega arith)) (stored-pasted a.a.now (2 * a.i) pair (omega arith) ∙ sym (put-with-room a.a.now (2 * a.i) pair (omega arith)))

pub returns-else-i-a : goal.returns-else-i-a
returns-else-i-a c = let a = c.args in sym (put-without-room a.a.now (2 * a.i) (a.p.x ∷ a.p.y ∷ []) (omega arith))
