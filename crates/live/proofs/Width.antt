-- The row over the width of the next one ahead: what is to come there and what waits tells whether the row ends it.
use Prim.Native.Nat.{ℕ, ◌+◌, ◌<◌}
use mathlib.Core.Path.{◌≡◌, refl, sym, ap, ◌∙◌}
use mathlib.Core.Bool.{Bool, true, false, xor}
use mathlib.Core.List.Memᴰ.{head}
use mathlib.Core.List.Memᴰ.{tail}
use mathlib.Core.List.{List, ◌∷◌, Memᴰ as In}
use lib.ListN.{length}
use lib.IntN.{ℤ}
use lib.Signed.{le_z, lt_z}
use Rattle.plane.specs.declared.Point.{Point}
use Rattle.plane.specs.Lists.{odd}
use Rattle.plane.specs.Words.{top}
use Rattle.plane.proofs.Order.{order}
use Rattle.plane.proofs.Bools.{by, xor-false, false-xor, xor-back, xor_assoc, xor-left-comm}
use Rattle.rule.specs.Rule.{left_of, rule_list}
use Rattle.rule.specs.Rows.{Accepted}
use Rattle.rule.proofs.Picks.{level}
use Rattle.rule.proofs.Toggle.{odd-four}
use Rattle.live.specs.declared.Live.{Live}
use Rattle.live.specs.Stands.{after_steps, rect_no, number, end_of, IsLive, tops, far, Stand, stand, waiting, Sweeping}
use Rattle.live.proofs.Numbered.{StepNo, step-no, sides-no}
use Rattle.live.proofs.Columns.{off-row}
use Rattle.live.proofs.Steady.{even-below-top, odd-at-top}
use Rattle.live.proofs.Shown.{odd-far, odd-waiting-points, live-listed, live-wide, live-far, odd-tops, tops-none-left, apart-right}

-- whether an odd number of the points to come and of two that may wait are left of a column of the row
abbrev pub left_here : (b row : ℤ) (rest : List Point) (c o : ℤ) → Bool
left_here b row rest c o = xor (odd (left_of b row) rest) (xor (odd (left_of b row) (waiting c row)) (odd (left_of b row) (waiting o row)))

module _ {ps : List Point} (acc : Accepted ps) where
  -- one ahead is not flat, and far is right of it
  pub sides : {s : Stand} → Sweeping ps s → (k : Live) → In k s.ahead → (lt_z k.left k.right ≡ true) × (lt_z k.right far ≡ true)
  sides w k m = let l = w.ahead-live k m in (live-wide acc w.given-few l, live-far acc w.given-few l)

  -- on a row above where a live rectangle begins, its step toggles just its upper corners
  toggles : {g : ℕ} {k : Live} → IsLive ps g k → number k < length (rule_list ps) → (b row : ℤ) → lt_z k.row row ≡ true → let f = left_of b row in odd f (after_steps ps (number k + 1)) ≡ xor (f (record { x = k.left; y = end_of ps k })) (xor (f (record { x = k.right; y = end_of ps k })) (odd f (after_steps ps (number k))))
  unfolding end_of
  toggles {k = k} l few b row low =
      let i : ℕ = number k in
      let f : Point → Bool = left_of b row in
      let t : StepNo ps i = step-no ps acc i few in
      let s = sides-no t in
      let row_is = l.row_is in
      let e = level t.picked in
      ap (odd f) t.next-is
      ∙ odd-four f (after_steps ps i) t.k t.l t.m
      ∙ rw (off-row b row t.k (omega order), off-row b row t.l (omega order), l.left_is, l.right_is, s.2, s.3, s.0) (turn _ _ _)
    where
      turn : (a b r : Bool) → xor a (xor b (xor false (xor false r))) ≡ xor b (xor a r)
      turn a b r = simp (false-xor, xor-left-comm)

  -- over its width, the row before the step of the next one ahead is what is to come and what waits
  over-width : {rest : List Point} {row c o : ℤ} {g : ℕ} {A B : List Live} {k : Live} → Sweeping ps (stand rest row c o far g A (k ∷ B)) → (b : ℤ) → le_z k.left b ≡ true → le_z b k.right ≡ true → odd (left_of b row) (after_steps ps (number k)) ≡ left_here b row rest c o
  over-width {rest} {row} {c} {o} {g} {A} {B} {k} w b from to =
      let f : Point → Bool = left_of b row in
      let l = w.ahead-live k (head refl) in
      let below : odd f (tops ps A) ≡ false = tops-none-left ps b row A (λ j m e. let h = w.passed_over j m in absurd (omega order)) in
      let beside : odd f (tops ps B) ≡ false = tops-none-left ps b row B (λ j m e. let h = apart-right k B A w.apart j m in let s = sides w j (tail m) in (omega order, omega order)) in
      cancel _ _ _ _ _ _ (sym (toggles l (live-listed acc w.given-few l) b row (w.ahead-below k (head refl))) ∙ sym (w.steady k (head refl) b from to) ∙ w.shown f ∙ rw (below, odd-tops f ps k B, beside, odd-waiting-points f c o far row, odd-far f row))
    where
      cancel : (a b r s t u : Bool) → xor a (xor b r) ≡ xor s (xor false (xor (xor a (xor b false)) (xor t (xor u false)))) → r ≡ xor s (xor t u)
      cancel a b r s t u e = sym (xor-back b r) ∙ ap (xor b) (sym (xor-back a (xor b r)) ∙ ap (xor a) e) ∙ simp (xor_assoc, xor-left-comm, xor-back, xor-false, false-xor)

  -- below the row that ends it, that is even
  pub even-below : {rest : List Point} {row c o : ℤ} {g : ℕ} {A B : List Live} {k : Live} → Sweeping ps (stand rest row c o far g A (k ∷ B)) → lt_z row (end_of ps k) ≡ true → (b : ℤ) → le_z k.left b ≡ true → le_z b k.right ≡ true → left_here b row rest c o ≡ false
  unfolding end_of
  even-below {row = row} {k = k} w h b from to =
      let l = w.ahead-live k (head refl) in
      let below = w.ahead-below k (head refl) in
      let left_is = l.left_is in
      let right_is = l.right_is in
      let row_is = l.row_is in
      sym (over-width w b from to) ∙ even-below-top ps acc (number k) (live-listed acc w.given-few l) row (omega order) h b (omega order) (omega order)

  -- so where it is even all over, the row does not end it
  pub goes-on-over : {rest : List Point} {row c o : ℤ} {g : ℕ} {A B : List Live} {k : Live} → Sweeping ps (stand rest row c o far g A (k ∷ B)) → ((b : ℤ) → le_z k.left b ≡ true → le_z b k.right ≡ true → left_here b row rest c o ≡ false) → lt_z row (end_of ps k) ≡ true
  unfolding end_of
  goes-on-over {row = row} {k = k} w even = by (lt_z row (end_of ps k)) (λ n.
      let l = w.ahead-live k (head refl) in
      let reach = w.ahead-over k (head refl) in
      let left_is = l.left_is in
      let right_is = l.right_is in
      let e : top (rect_no ps (number k)) ≡ row = omega order in
      odd-at-top ps acc (number k) (live-listed acc w.given-few l) (λ b from to. rw e (over-width w b (omega order) (omega order) ∙ even b (omega order) (omega order))))
