-- Whether a row ends a rectangle is told by how many points are left of each column over its width; and later steps do not change that.
use Prim.Native.Nat.{ℕ, zero, suc, ◌+◌, ◌<◌, ◌≤◌}
use native.Mathlib.Omega.{arith}
use native.Mathlib.Decide.{ℕ_discrete}
use native.Mathlib.Numerals.{add-one}
use mathlib.Core.Path.{◌≡◌, refl, sym, ap, ◌∙◌, subst}
use mathlib.Core.Bool.{Bool, true, false, not, ◌&&◌, ◌||◌}
use mathlib.Core.List.{List, Memᴰ as In}
use lib.ListN.{length}
use lib.IntN.{ℤ, pos, pred_ℤ, ◌+ℤ◌}
use lib.Signed.{le_z, lt_z}
use borrow.Author.Tests.{not-true}
use Rattle.plane.specs.declared.Point.{Point}
use Rattle.plane.specs.declared.Rect.{Rect}
use Rattle.plane.specs.Lists.{any, count, odd}
use Rattle.plane.specs.Words.{eq_z, same, on_row, right, top, under, marks, holds}
use Rattle.plane.proofs.Order.{order, pred-up, next_up, eq_z-is}
use Rattle.plane.proofs.Bools.{by, by-no, and_parts, and-make, or_parts, iff, clash, xor_self, xor-false, false-xor, xor-back}
use Rattle.plane.proofs.Sums.{any-find, any-in}
use Rattle.plane.proofs.Parity.{odd-cong, odd-find}
use Rattle.plane.proofs.Points.{After, above, along, odd-without}
use Rattle.rule.specs.Rule.{over, left_of, stops, stopper, rect_of, toggle_four, rule_list, Picked}
use Rattle.rule.specs.Rows.{Accepted}
use Rattle.rule.proofs.Picks.{after-k, level, l-right_of, clear, over-make}
use Rattle.rule.proofs.Toggle.{odd-four}
use Rattle.rule.proofs.Inside.{holds-rect, marks-four, inside, even-by-rows}
use Rattle.live.specs.Stands.{after_steps, rect_no}
use Rattle.live.proofs.Numbered.{step-no, sides-no}
use Rattle.live.proofs.Columns.{is-left, off-row}

-- ---- A row that stops, and one that does not

-- where an even number is left of the column after a point that stands once, an odd number is left of its own
odd-before : {ps : List Point} {q : Point} → In q ps → count (same q) ps ≤ 1 → odd (left_of (q.x +ℤ pos 1) q.y) ps ≡ false → odd (left_of q.x q.y) ps ≡ true
unfolding left_of on_row same
odd-before {ps} {q} n once even =
    odd-cong (left_of q.x q.y) (λ p. not (same q p) && left_of next q.y p) ps (λ p i. iff _ _ (there p) (back p))
    ∙ sym (odd-without (left_of next q.y) n once)
    ∙ rw (is-left next q.y q refl (omega (order, next_up q.x)), even) (xor-false true)
  where
    next : ℤ
    next = q.x +ℤ pos 1

    there : (p : Point) → left_of q.x q.y p ≡ true → (not (same q p) && left_of next q.y p) ≡ true
    there p e =
        let h = and_parts (on_row q.y p) (lt_z p.x q.x) e in
        let d : eq_z q.x p.x ≡ false = omega order in
        rw (d, h.0) (omega (order, next_up q.x))

    back : (p : Point) → (not (same q p) && left_of next q.y p) ≡ true → left_of q.x q.y p ≡ true
    back p e =
        let h = and_parts (not (same q p)) (left_of next q.y p) e in
        let g = and_parts (on_row q.y p) (lt_z p.x next) h.1 in
        and-make (on_row q.y p) (lt_z p.x q.x) g.0 (by (lt_z p.x q.x) (λ f. clash (and-make (eq_z q.x p.x) (eq_z q.y p.y) (omega (order, next_up q.x)) (omega order)) (not-true (same q p) h.0)))

module _ (ps : List Point) (xk xl y : ℤ) where
  -- a row that does not stop has an even number of points left of each column over the width
  even-clear : stops ps xk xl y ≡ false → (b : ℤ) → le_z xk b ≡ true → le_z b xl ≡ true → odd (left_of b y) ps ≡ false
  unfolding stops left_of
  even-clear e b from to =
      let s = or_parts (any (over xk xl y) ps) (odd (left_of xk y) ps) e in
      odd-cong (left_of b y) (left_of xk y) ps (λ p n. beside p n s.0 (on_row y p) refl) ∙ s.1
    where
      beside : (p : Point) → In p ps → any (over xk xl y) ps ≡ false → (t : Bool) → on_row y p ≡ t → (t && lt_z p.x b) ≡ (t && lt_z p.x xk)
      beside p n none false d = refl
      beside p n none true d = iff (lt_z p.x b) (lt_z p.x xk) (λ i. by (lt_z p.x xk) (λ f. clash (any-in (over xk xl y) n (over-make xk xl y p d (omega order) (omega order))) none)) (λ i. omega order)

  -- a row that stops has not
  odd-stops : ((q : Point) → count (same q) ps ≤ 1) → le_z xk xl ≡ true → stops ps xk xl y ≡ true → ((b : ℤ) → le_z xk b ≡ true → le_z b xl ≡ true → odd (left_of b y) ps ≡ false) → ⊥
  unfolding stops over on_row
  odd-stops once wide e even = go (any (over xk xl y) ps) refl e
    where
      go : (t : Bool) → any (over xk xl y) ps ≡ t → (t || odd (left_of xk y) ps) ≡ true → ⊥
      go true d f =
          let r = any-find (over xk xl y) ps d in
          let q : Point = r.0 in
          let g = and_parts (on_row y q) (le_z xk q.x && lt_z q.x xl) r.2 in
          let w = and_parts (le_z xk q.x) (lt_z q.x xl) g.1 in
          let row : q.y ≡ y = eq_z-is _ _ g.0 in
          let after-q : odd (left_of (q.x +ℤ pos 1) q.y) ps ≡ false = rw row (even (q.x +ℤ pos 1) (omega (order, next_up q.x)) (omega (order, next_up q.x))) in
          clash (odd-before r.1 (once q) after-q) (rw row (even q.x w.0 (omega order)))
      go false d f = clash f (even xk (omega order) wide)

-- ---- A step and the rows over its rectangle's width

module _ {ps : List Point} {k l : Point} {m : ℤ} (c : Picked ps k l m) where
  -- a row between K's and M has an even number of points left of each column over the width
  even-between : (y : ℤ) → lt_z k.y y ≡ true → lt_z y m ≡ true → (b : ℤ) → le_z k.x b ≡ true → le_z b l.x ≡ true → odd (left_of b y) ps ≡ false
  unfolding left_of on_row
  even-between y low high b from to = by-no (odd (left_of b y) ps) (λ e.
      let r = odd-find (left_of b y) ps e in
      let d : r.0.y ≡ y = eq_z-is _ _ (and_parts (on_row y r.0) (lt_z r.0.x b) r.2).0 in
      let s : stops ps k.x l.x y ≡ false = rw d at (clear c r.0 r.1 (omega order) (omega order)) in
      clash e (even-clear ps k.x l.x y s b from to))

  -- M stops
  stops-m : stops ps k.x l.x m ≡ true
  unfolding stopper
  stops-m = rw c.row-m at (and_parts (lt_z k.y c.on-m.y) (stops ps k.x l.x c.on-m.y) c.first-m.passes).1

  -- the cells beside the rectangle on its left are not marked
  unmarked-beside : (y : ℤ) → lt_z y m ≡ true → marks ps (pred_ℤ k.x) y ≡ false
  unfolding marks under left_of
  unmarked-beside y high =
      odd-cong (under (pred_ℤ k.x) y) (λ p. up_to p.y && lt_z p.x k.x) ps (λ q n. iff _ _ (there q (after-k c q n)) (back q))
      ∙ even-by-rows (λ p. lt_z p.x k.x) up_to ps even
    where
      up_to : ℤ → Bool
      up_to z = lt_z k.y z && le_z z y

      there : (q : Point) → After q k → under (pred_ℤ k.x) y q ≡ true → (up_to q.y && lt_z q.x k.x) ≡ true
      there q (above g) e =
          let h = and_parts (le_z q.x (pred_ℤ k.x)) (le_z q.y y) e in
          and-make (up_to q.y) (lt_z q.x k.x) (and-make _ _ g h.1) (omega (order, pred-up k.x))
      there q (along d g) e =
          let h = and_parts (le_z q.x (pred_ℤ k.x)) (le_z q.y y) e in
          absurd (omega (order, pred-up k.x))

      back : (q : Point) → (up_to q.y && lt_z q.x k.x) ≡ true → under (pred_ℤ k.x) y q ≡ true
      back q e =
          let h = and_parts (up_to q.y) (lt_z q.x k.x) e in
          and-make (le_z q.x (pred_ℤ k.x)) (le_z q.y y) (omega (order, pred-up k.x)) (and_parts (lt_z k.y q.y) (le_z q.y y) h.0).1

      even : (q : Point) → In q ps → up_to q.y ≡ true → odd (λ p. on_row q.y p && lt_z p.x k.x) ps ≡ false
      even q n e =
          let h = and_parts (lt_z k.y q.y) (le_z q.y y) e in
          let w = l-right_of c in
          even-between q.y h.0 (omega order) k.x (omega order) (omega order)

  module _ (acc : Accepted ps) where
    -- the rectangle holds every cell from xK below xL and from yK below M, and it was marked
    marked-within : (a b : ℤ) → le_z k.x a ≡ true → lt_z a l.x ≡ true → le_z k.y b ≡ true → lt_z b m ≡ true → (holds a b (rect_of k l m) ≡ true) × (marks ps a b ≡ true)
    marked-within a b left right low high =
        let h = holds-rect a b k l m ∙ and-make (le_z k.x a && lt_z a l.x) (le_z k.y b && lt_z b m) (and-make _ _ left right) (and-make _ _ low high) in
        (h, inside acc c a b h)

    -- the step marks no cell
    unmarked-still : (a b : ℤ) → marks ps a b ≡ false → marks (toggle_four ps k l m) a b ≡ false
    unmarked-still a b e =
        let h : holds a b (rect_of k l m) ≡ false = by-no _ (λ f. clash (inside acc c a b f) e) in
        marks-four c a b ∙ rw (h, e) (xor_self false)

    -- it leaves the rectangle's cells, and those beside it on its left, unmarked
    unmarked-after : (b y : ℤ) → le_z k.x b ≡ true → le_z b l.x ≡ true → le_z k.y y ≡ true → lt_z y m ≡ true → marks (toggle_four ps k l m) (pred_ℤ b) y ≡ false
    unmarked-after b y from to low high = go (lt_z k.x b) refl
      where
        go : (t : Bool) → lt_z k.x b ≡ t → marks (toggle_four ps k l m) (pred_ℤ b) y ≡ false
        go true e =
            let h = marked-within (pred_ℤ b) y (omega (order, pred-up b)) (omega (order, pred-up b)) low high in
            marks-four c (pred_ℤ b) y ∙ rw (h.0, h.1) (xor_self true)
        go false e =
            let d : b ≡ k.x = omega order in
            unmarked-still (pred_ℤ b) y (rw d (unmarked-beside y high))

    -- on a row above K's, it keeps the parity left of a column whose cell on the left below the row is not marked
    row_kept : (b y : ℤ) → lt_z k.y y ≡ true → marks ps (pred_ℤ b) (pred_ℤ y) ≡ false → odd (left_of b y) (toggle_four ps k l m) ≡ odd (left_of b y) ps
    unfolding left_of on_row
    row_kept b y low e =
        odd-four (left_of b y) ps k l m
        ∙ rw (below k refl, below l (level c), alike (eq_z m y) refl) (xor-back (left_of b y (record { x = k.x; y = m })) _ ∙ false-xor _ ∙ false-xor _)
      where
        below : (q : Point) → q.y ≡ k.y → left_of b y q ≡ false
        below q d = off-row b y q (omega order)

        alike : (t : Bool) → eq_z m y ≡ t → left_of b y (record { x = l.x; y = m }) ≡ left_of b y (record { x = k.x; y = m })
        alike false d = rw d
        alike true d = rw d (iff (lt_z l.x b) (lt_z k.x b) (λ h. let w = l-right_of c in omega order) (λ h. by (lt_z l.x b) (λ f. clash (marked-within (pred_ℤ b) (pred_ℤ y) (omega (order, pred-up b)) (omega (order, pred-up b)) (omega (order, pred-up y)) (omega (order, pred-up y))).1 e)))

-- ---- The step with a number

-- what each step keeps, holds from one number up to a later one
upward : (P : ℕ → Type 0) (i c : ℕ) → i ≤ c → P i → ((j : ℕ) → i ≤ j → j < c → P j → P (j + 1)) → P c
upward P i zero h start next = subst P (omega arith) start
upward P i (suc c) h start next = go (ℕ_discrete i (suc c)) (λ g. upward P i c g start (λ j f d. next j f (omega arith)))
  where
    go : Dec (i ≡ suc c) → (i ≤ c → P c) → P (suc c)
    go (yes e) ih = subst P e start
    go (no n) ih = subst P (add-one c) (next c (omega arith) (omega arith) (ih (omega arith)))

module _ (ps : List Point) (acc : Accepted ps) (i : ℕ) where
  -- its rectangle
  abbrev r : Rect
  r = rect_no ps i

  -- on a row between a rectangle's lower and upper side, an even number of the points before its step are left of each column over its width
  pub even-below-top : i < length (rule_list ps) → (y : ℤ) → lt_z r.y y ≡ true → lt_z y (top r) ≡ true → (b : ℤ) → le_z r.x b ≡ true → le_z b (right r) ≡ true → odd (left_of b y) (after_steps ps i) ≡ false
  even-below-top h y low high b from to =
      let s = step-no ps acc i h in
      let e = sides-no s in
      even-between s.picked y (omega order) (omega order) b (omega order) (omega order)

  -- on the row of its upper side that is not so
  pub odd-at-top : i < length (rule_list ps) → ((b : ℤ) → le_z r.x b ≡ true → le_z b (right r) ≡ true → odd (left_of b (top r)) (after_steps ps i) ≡ false) → ⊥
  odd-at-top h even =
      let s = step-no ps acc i h in
      let e = sides-no s in
      let w = l-right_of s.picked in
      odd-stops (after_steps ps i) s.k.x s.l.x s.m s.accepted.once (omega order) (stops-m s.picked) (λ b from to. subst (λ (y : ℤ). odd (left_of b y) (after_steps ps i) ≡ false) e.3 (even b (omega order) (omega order)))

  -- on a row above where the steps up to number c begin, and not above the upper side of an earlier rectangle, they leave those numbers as
  -- that rectangle's step did
  pub steady-over : (c : ℕ) → i < c → c ≤ length (rule_list ps) → (y : ℤ) → le_z y (top r) ≡ true → ((j : ℕ) → j < c → lt_z (rect_no ps j).y y ≡ true) → (b : ℤ) → le_z r.x b ≡ true → le_z b (right r) ≡ true → odd (left_of b y) (after_steps ps c) ≡ odd (left_of b y) (after_steps ps (i + 1))
  steady-over c h few y not-above below b from to = (upward Kept (i + 1) c (omega arith) start next).1
    where
      Kept : ℕ → Type 0
      Kept j = (marks (after_steps ps j) (pred_ℤ b) (pred_ℤ y) ≡ false) × (odd (left_of b y) (after_steps ps j) ≡ odd (left_of b y) (after_steps ps (i + 1)))

      start : Kept (i + 1)
      start =
          let s = step-no ps acc i (omega arith) in
          let e = sides-no s in
          let low = below i h in
          (ap (λ (qs : List Point). marks qs (pred_ℤ b) (pred_ℤ y)) s.next-is ∙ unmarked-after s.picked s.accepted b (pred_ℤ y) (omega order) (omega order) (omega (order, pred-up y)) (omega (order, pred-up y)), refl)

      next : (j : ℕ) → i + 1 ≤ j → j < c → Kept j → Kept (j + 1)
      next j f g kept =
          let s = step-no ps acc j (omega arith) in
          let e = sides-no s in
          let low = below j g in
          (ap (λ (qs : List Point). marks qs (pred_ℤ b) (pred_ℤ y)) s.next-is ∙ unmarked-still s.picked s.accepted (pred_ℤ b) (pred_ℤ y) kept.0, ap (odd (left_of b y)) s.next-is ∙ row_kept s.picked s.accepted b y (omega order) kept.0 ∙ kept.1)
