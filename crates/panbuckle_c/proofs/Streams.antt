-- From a stream file to forward's list: of whatever meets the contract of the reading, and then of whatever meets that of forward on the corners that
-- were read.
use mathlib.Core.Path.{◌≡◌, refl, ap, ◌∙◌}
use mathlib.Core.Logic.{◌⊎◌, inl, inr}
use Prim.Native.Nat.{ℕ, ◌*◌, ◌/◌}
use mathlib.Core.Bool.{Bool, true, false, cond}
use mathlib.Core.List.{List}
use lib.ListN.{length, take}
use lib.IntN.{ℤ}
use lib.Dec.{ltb}
use Rattle.plane.specs.declared.Point.{Point}
use Rattle.plane.specs.Lists.{bit, any, count}
use Rattle.plane.specs.Words.{points_of, rect_size, holds}
use Rattle.plane.proofs.Arrays.{length-flat-points, points-flat}
use Rattle.entry.specs.Checks.{accepted, refused}
use Rattle.entry.specs.Entry.{number_in, Counted}
use Rattle.entry.proofs.Verdicts.{verdict-none, verdict-whole}
use Rattle.rule.specs.ForwardCall.{forward_answer, forward_list, ForwardDone, list_of, ForwardAnswer}
use Rattle.boundaries.specs.Boundary.{inside, handed_on}
use Rattle.boundaries.proofs.Forward.{boundaries-asked, boundaries-covered}
use Rattle.gdsii.specs.Walk.{read_all}
use Rattle.gdsii.specs.Call.{boundaries_in, ReadDone}
use Rattle.gdsii.proofs.Kept.{done-accepted, done-shapes, done-numbers}
use Rattle.panbuckle.proofs.Kept.{done-list}

-- a refusal that depends on two tests is one of two numbers, or none
one_of_two : (b c : Bool) (p q : ℕ) → let n = number_in (cond b (refused 3 p) (cond c (refused 8 q) accepted)) in (n ≡ 0) ⊎ ((n ≡ 3) ⊎ (n ≡ 8))
one_of_two true c p q = inr (inl refl)
one_of_two false true p q = inr (inr refl)
one_of_two false false p q = inl refl

module _ (t name : List ℕ) (layer : ℤ) {out : List ℤ} {r : Counted} {scratch_after out-after : List ℤ} (d : ReadDone t name layer out r scratch_after out-after) (done : r.answer ≡ 0) {work rects : List ℤ} {s : ForwardAnswer} {work-after rects-after : List ℤ} (e : ForwardDone (take (2 * r.count) out-after) work rects s work-after rects-after) where
  -- the array that forward is given
  abbrev corners : List ℤ
  corners = take (2 * r.count) out-after

  abbrev bs : List (List Point)
  bs = boundaries_in (read_all name layer t)

  corners-are : points_of corners ≡ handed_on bs
  corners-are = ap points_of (done-numbers t name layer d done) ∙ points-flat (handed_on bs)

  -- forward refuses the corners for nothing but WORK and ROOM: never for a row or a column
  pub stream-asked : (s.answer ≡ 0) ⊎ ((s.answer ≡ 3) ⊎ (s.answer ≡ 8))
  unfolding forward_answer
  stream-asked =
      let c = done-accepted t name layer d done in
      let even : length corners ≡ 2 * length (handed_on bs) = ap length (done-numbers t name layer d done) ∙ length-flat-points (handed_on bs) in
      let said = boundaries-asked bs (done-shapes t name layer d done) c.range corners corners-are even c.few (length work) (length rects) in
      rw (e.answer, said, verdict-whole, verdict-whole, verdict-none) (one_of_two (ltb (length work) (2 * length (handed_on bs))) (ltb (length rects / rect_size) (length (forward_list corners))) 0 (length (forward_list corners)))

  -- each unit cell is in exactly one rectangle of forward's list if a boundary of the stream marks it, and in none otherwise
  pub stream-covered : s.answer ≡ 0 → (x y : ℤ) → count (holds x y) (list_of s rects-after) ≡ bit (any (inside x y) bs)
  stream-covered listed x y =
      let c = done-accepted t name layer d done in
      rw (done-list e listed) (boundaries-covered bs (done-shapes t name layer d done) c.range corners corners-are c.apart x y)
