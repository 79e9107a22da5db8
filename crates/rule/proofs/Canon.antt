-- Demand 3, second half: two accepted arrays have equal lists exactly when they mark the same cells, in any order of points.
use mathlib.Core.Path.{◌≡◌, refl, sym, ap, ◌∙◌, subst}
use mathlib.Core.Logic.{◌↔◌}
use native.Mathlib.Omega.{arith}
use mathlib.Core.Bool.{Bool, true, false, ◌||◌}
use mathlib.Core.List.Memᴰ
use mathlib.Core.List.{List, [], Memᴰ as In}
use lib.IntN.{ℤ}
use lib.Signed.{lt_z}
use Rattle.plane.specs.declared.Point.{Point}
use Rattle.plane.specs.declared.Rect.{Rect}
use Rattle.plane.specs.Lists.{bit, any, odd, count}
use Rattle.plane.specs.Words.{marks, holds}
use Rattle.plane.proofs.Bools.{and_parts, and-make, or_right}
use Rattle.plane.proofs.Sums.{any-find, any-in}
use Rattle.plane.proofs.Alike.{Alike, alike-sym, alike-in, marks-alike}
use Rattle.rule.specs.Rule.{over, left_of, stops, stopper, toggle_four, rule_list, IsFirst, Picked}
use Rattle.rule.specs.Rows.{Accepted}
use Rattle.rule.proofs.Toggle.{odd-four}
use Rattle.rule.proofs.Picks.{first-unique}
use Rattle.rule.proofs.Steps.{four-accepted, Steps, stay, more}
use Rattle.rule.proofs.Bound.{rule-steps}
use Rattle.rule.proofs.Cover.{rule-covers}

-- ---- K, L and M go by the set of points

alike-four : (ps qs : List Point) (k l : Point) (m : ℤ) → Alike ps qs → Alike (toggle_four ps k l m) (toggle_four qs k l m)
alike-four ps qs k l m h = record { parity = λ f. odd-four f ps k l m ∙ rw (h.parity f) (sym (odd-four f qs k l m)) }

module _ {ps qs : List Point} (acc : Accepted ps) (alike : Alike ps qs) where
  -- a row that stops in one list stops in the other
  stops-move : (xk xl y : ℤ) → stops ps xk xl y ≡ true → stops qs xk xl y ≡ true
  unfolding stops
  stops-move xk xl y = go (any (over xk xl y) ps) refl
    where
      go : (t : Bool) → any (over xk xl y) ps ≡ t → (t || odd (left_of xk y) ps) ≡ true → (any (over xk xl y) qs || odd (left_of xk y) qs) ≡ true
      go true d e = let r = any-find (over xk xl y) ps d in rw (any-in (over xk xl y) (alike-in acc.once alike r.0 r.1) r.2)
      go false d e = or_right (any (over xk xl y) qs) (odd (left_of xk y) qs) (sym (alike.parity (left_of xk y)) ∙ e)

  stopper-move : (k l q : Point) → stopper k l ps q ≡ true → stopper k l qs q ≡ true
  unfolding stopper
  stopper-move k l q e =
      let h = and_parts (lt_z k.y q.y) (stops ps k.x l.x q.y) e in
      and-make (lt_z k.y q.y) (stops qs k.x l.x q.y) h.0 (stops-move k.x l.x q.y h.1)

module _ {ps qs : List Point} (acc : Accepted ps) (bcc : Accepted qs) (alike : Alike ps qs) where
  -- the first point of a test that passes the same points is the same
  same_first : {f g : Point → Bool} {k l : Point} → IsFirst f ps k → IsFirst g qs l → (f k ≡ true → g k ≡ true) → (g l ≡ true → f l ≡ true) → k ≡ l
  same_first {k = k} {l} s t to back = first-unique s t (alike-in acc.once alike k s.within) (to s.passes) (alike-in bcc.once (alike-sym alike) l t.within) (back t.passes)

  same-k : {k k' l l' : Point} {m m' : ℤ} → Picked ps k l m → Picked qs k' l' m' → k ≡ k'
  same-k c d = same_first c.first-k d.first-k (λ e. e) (λ e. e)

  same-l : {k l l' : Point} {m m' : ℤ} → Picked ps k l m → Picked qs k l' m' → l ≡ l'
  same-l c d = same_first c.first-l d.first-l (λ e. e) (λ e. e)

  same-m : {k l : Point} {m m' : ℤ} → Picked ps k l m → Picked qs k l m' → m ≡ m'
  same-m {k} {l} c d = sym c.row-m ∙ ap (λ (p : Point). p.y) (same_first c.first-m d.first-m (stopper-move acc alike k l _) (stopper-move bcc (alike-sym alike) k l _)) ∙ d.row-m

-- ---- So does the whole list

nobody : {ps : List Point} → Accepted ps → Alike ps [] → {k : Point} → In k ps → ⊥
nobody acc h {k} n = Memᴰ.not-nil (alike-in acc.once h k n)

-- two runs to the end from alike lists make the same rectangles
same-run : {ps qs ps' qs' : List Point} {rs ss : List Rect} → Steps ps rs ps' → ps' ≡ [] → Steps qs ss qs' → qs' ≡ [] → Accepted ps → Accepted qs → Alike ps qs → rs ≡ ss
same-run stay e stay d acc bcc h = refl
same-run {qs = qs} stay e (more k l m _ c s) d acc bcc h = absurd (nobody bcc (subst (λ z. Alike qs z) e (alike-sym h)) c.first-k.within)
same-run {ps = ps} (more k l m _ c s) e stay d acc bcc h = absurd (nobody acc (subst (λ z. Alike ps z) d h) c.first-k.within)
same-run (more {ps = ps} k l m _ c s) e (more {ps = qs} {qs = qs'} {rs = ss} k' l' m' _ c' s') d acc bcc h =
    let eK : k ≡ k' = same-k acc bcc h c c' in
    let c₁ : Picked qs k l' m' = rw (← eK) at c' in
    let eL : l ≡ l' = same-l acc bcc h c c₁ in
    let c₂ : Picked qs k l m' = rw (← eL) at c₁ in
    let eM : m ≡ m' = same-m acc bcc h c c₂ in
    let s₁ : Steps (toggle_four qs k l m) ss qs' = rw (← eK, ← eL, ← eM) at s' in
    let d₁ : Picked qs k l m = rw (← eM) at c₂ in
    let ih = same-run s e s₁ d (four-accepted c acc) (four-accepted d₁ bcc) (alike-four ps qs k l m h) in
    cc

pub alike-list : (ps qs : List Point) → Accepted ps → Accepted qs → Alike ps qs → rule_list ps ≡ rule_list qs
alike-list ps qs acc bcc h = same-run (rule-steps ps acc) refl (rule-steps qs bcc) refl acc bcc h

-- two accepted arrays have equal lists exactly when they mark the same cells
pub rule-canon : (ps qs : List Point) → Accepted ps → Accepted qs → (rule_list ps ≡ rule_list qs) ↔ ((a b : ℤ) → marks ps a b ≡ marks qs a b)
rule-canon ps qs acc bcc = (λ e a b. told (marks ps a b) (marks qs a b) (sym (rule-covers ps acc a b) ∙ ap (count (holds a b)) e ∙ rule-covers qs bcc a b), λ h. alike-list ps qs acc bcc (marks-alike ps qs h))
  where
    told : (s t : Bool) → bit s ≡ bit t → s ≡ t
    told true true e = refl
    told true false e = absurd (omega arith)
    told false true e = absurd (omega arith)
    told false false e = refl
