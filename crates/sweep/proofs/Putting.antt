-- Rectangles put into an output at their places in the list, in whatever order.
use Prim.Native.Nat.{ℕ, ◌+◌, ◌*◌, ◌≤◌, ◌<◌}
use native.Mathlib.Omega.{arith}
use mathlib.Core.Path.{◌≡◌, refl, sym, ◌∙◌}
use mathlib.Core.Bool.{Bool, true, false}
use mathlib.Core.List.Memᴰ.{head}
use mathlib.Core.List.Memᴰ.{not-nil}
use mathlib.Core.List.Memᴰ.{tail}
use mathlib.Core.List.{List, [], ◌∷◌, Memᴰ as In}
use lib.ListN.{length, take, set}
use lib.Seq.{length-take-le, get_or-take, get_or-set_same, get_or-set_other, ext_get_or}
use lib.IntN.{ℤ}
use lib.Dec.{eqb}
use borrow.Author.Tests.{eqb-true, eqb-false}
use Rattle.plane.specs.declared.Point.{Point}
use Rattle.plane.specs.declared.Rect.{Rect}
use Rattle.plane.specs.Lists.{at_start}
use Rattle.plane.specs.Words.{rect_size, rects_of, flat_rects, rect_at}
use Rattle.plane.proofs.Arrays.{length-rects, length-flat-rects, rects-rest, rects-set}
use Rattle.rule.specs.Rule.{rule_list}
use Rattle.rule.specs.Rows.{Accepted}
use Rattle.live.specs.Stands.{rect_no}
use Rattle.live.proofs.Numbered.{list_at}
use Rattle.sweep.specs.Inner.{put_rect, KeptPast}
use Rattle.sweep.proofs.Past.{kept-all, kept_on, kept-rect}

-- an output where those of the list with these numbers stand at their places, and past the list all is as it was
pub record Puts (ps : List Point) (finished : List ℕ) (out₀ out : List ℤ) : Type 0 where
  pub kept : KeptPast (rect_size * length (rule_list ps)) out₀ out
  pub each : (i : ℕ) → In i finished → rect_at (rects_of out) i ≡ rect_no ps i

-- none are put before the first
pub puts_none : {ps : List Point} {out₀ : List ℤ} → Puts ps [] out₀ out₀
puts_none = record { kept = kept-all; each = λ i m. absurd (not-nil m) }

module _ {ps : List Point} {finished : List ℕ} {out₀ out : List ℤ} (room : rect_size * length (rule_list ps) ≤ length out₀) (w : Puts ps finished out₀ out) where
  -- the output has room for the list
  room-still : rect_size * length (rule_list ps) ≤ length out
  room-still = omega (arith, room, w.kept.same_length)

  -- one more is put, again or for the first time
  pub puts-next : (i : ℕ) → i < length (rule_list ps) → Puts ps (i ∷ finished) out₀ (put_rect out i (rect_no ps i))
  puts-next i h =
      let within : rect_size * i + 3 < length out = omega (arith, room-still) in
      record {
        kept = kept_on w.kept (kept-rect (rect_size * length (rule_list ps)) out i (rect_no ps i) (omega arith));
        each = λ j m. rw (rects-set out i (rect_no ps i) within) (go j m (eqb j i) refl);
      }
    where
      go : (j : ℕ) → In j (i ∷ finished) → (b : Bool) → eqb j i ≡ b → rect_at (set (rects_of out) i (rect_no ps i)) j ≡ rect_no ps j
      go j m true e = let same = eqb-true j i e in rw same (get_or-set_same (rects_of out) i (rect_no ps i) _ (omega (arith, room-still, length-rects out)))
      go j (head s) false e = absurd (eqb-false j i e s)
      go j (tail m) false e = get_or-set_other (rects_of out) i j (rect_no ps i) _ (eqb-false j i e) ∙ w.each j m

  -- with all put, the output is the list's
  pub puts-all : Accepted ps → ((i : ℕ) → i < length (rule_list ps) → In i finished) → out ≡ at_start (flat_rects (rule_list ps)) out₀
  puts-all acc all =
      let n : ℕ = length (rule_list ps) in
      let first : List Rect = take n (rects_of out) in
      let many : length first ≡ n = length-take-le n (rects_of out) (omega (arith, room-still, length-rects out)) in
      let full : first ≡ rule_list ps = ext_get_or _ first (rule_list ps) many (λ i h. let k : i < n = omega (arith, many) in get_or-take n (rects_of out) i _ k ∙ w.each i (all i k) ∙ sym (list_at ps acc i _ k)) in
      rects-rest n out room-still ∙ rw (full, w.kept.same-past, length-flat-rects (rule_list ps))
