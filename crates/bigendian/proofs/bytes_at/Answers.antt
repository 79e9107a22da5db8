-- `bigendian::bytes_at` meets its contract.
use Rattle.std.proofs.Common.{◌+◌, ◌-◌, ◌≡◌, sym, ◌∙◌, arith}
use Rattle.std.proofs.lemmas.Bool.{leb-true}
use Rattle.bigendian.proofs.Places.{front-number}
use Rattle.bigendian.proofs.bytes_at.Goals as goal

pub returns-then-has_room : goal.returns-then-has_room
returns-then-has_room g c =
    let a = c.args in
    let n = g.row.N in
    let whole = rw c.unwrap.ensures at c.as_array.ensures.cases in
    let size : a.at + n - a.at ≡ n = omega arith in
    front-number n a.at a.bytes.now (leb-true _ _ (sym c.has_room.ensures ∙ c.if-has_room.true)) (rw (← size) whole.same)
