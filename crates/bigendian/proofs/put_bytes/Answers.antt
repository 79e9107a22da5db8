-- `bigendian::put_bytes` meets its contract.
use Rattle.std.proofs.Common.{◌+◌, ◌-◌, ◌≡◌, sym, ◌∙◌, length, arith}
use Rattle.std.proofs.lemmas.Bool.{leb-true, leb-false}
use Rattle.plane.proofs.AtPlace.{put-with-room, put-without-room}
use Rattle.bigendian.proofs.put_bytes.Goals as goal

pub returns-then-has_room : goal.returns-then-has_room
returns-then-has_room c =
    let a = c.args in
    let size : a.at + length a.number.now - a.at ≡ length a.number.now = omega arith in
    rw (size, c.copy_from_slice.ensures.after) (sym (put-with-room a.bytes.now a.at a.number.now (leb-true _ _ (sym c.has_room.ensures ∙ c.if-has_room.true))))

pub returns-else-has_room : goal.returns-else-has_room
returns-else-has_room c = let a = c.args in sym (put-without-room a.bytes.now a.at a.number.now (leb-false _ _ (sym c.has_room.ensures ∙ c.if-has_room.false)))
