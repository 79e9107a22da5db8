-- Bytes that are drawn on a paper one after another.
use Prim.Native.Nat.{ℕ, ◌+◌}
use Rattle.std.proofs.Common.{add-zero}
use native.Mathlib.Omega.{arith}
use mathlib.Core.Path.{◌≡◌, refl, ◌∙◌}
use mathlib.Core.List.{List, [], ◌++◌}
use lib.ListN.{length, length-append, take-append-drop}
use Rattle.plane.proofs.AtPlace.{pasted_length, pasted-then}
use Rattle.numerals.specs.Bytes.{Put}
use Rattle.numerals.proofs.Putting.{put-room}
use Rattle.drawing.specs.declared.Paper.{Paper}
use Rattle.drawing.specs.Inner.{HasRoom, Draws}

-- what is put after the bytes that are there is drawn
pub put-draws : (p : Paper) (bytes : List ℕ) {r : ℕ} {after : List ℕ} → Put p.room.now p.len bytes r after → Draws p bytes (record { room = record p.room { now = after }; len = r })
put-draws p bytes put = record { drawn = λ h. let e = put-room p.room.now p.len bytes put h in rw (e.0, e.1) refl }

-- nothing is drawn where the paper stays
pub draws-nothing : (p : Paper) → Draws p [] p
draws-nothing p = record { drawn = λ h. rw (add-zero, take-append-drop p.len p.room.now) refl }

-- two pieces, one after the other, are one
pub both : {p q r : Paper} {xs ys : List ℕ} → Draws p xs q → Draws q ys r → Draws p (xs ++ ys) r
both {p} {q} {r} {xs} {ys} d e =
    record {
      drawn = λ h.
          let first : HasRoom p xs = omega (arith, length-append xs ys) in
          let kept = pasted_length p.room.now p.len xs first in
          let then : HasRoom q ys = rw (d.drawn first) (omega (arith, kept, length-append xs ys)) in
          let where_to : p.len + length xs + length ys ≡ p.len + length (xs ++ ys) = omega (arith, length-append xs ys) in
          e.drawn then ∙ (rw (d.drawn first, pasted-then p.room.now p.len xs ys (omega arith), where_to) refl);
    }
