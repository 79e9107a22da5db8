-- A step's rectangle against the marked cells: the step unmarks just the cells of its rectangle, and all of them were marked.
use mathlib.Core.Path.{◌≡◌, refl, sym, ◌∙◌}
use mathlib.Core.Bool.{Bool, true, false, not, ◌&&◌, xor, true≢false, false≢true}
use mathlib.Core.List.{List, Memᴰ as In}
use lib.IntN.{ℤ}
use lib.Signed.{le_z, lt_z}
use Rattle.plane.specs.declared.Point.{Point}
use Rattle.plane.specs.Lists.{any, odd}
use Rattle.plane.specs.Words.{eq_z, same, on_row, under, marks, holds}
use Rattle.plane.proofs.Order.{order, far-side, eq_z-is, eq_z-refl}
use Rattle.plane.proofs.Bools.{and_parts, and-make, or_parts, iff, clash, xor_assoc, xor-left-comm}
use Rattle.plane.proofs.Sums.{any-in}
use Rattle.plane.proofs.Parity.{odd-cong, odd-split, odd-one, classes-even}
use Rattle.plane.proofs.Points.{same-is, same_refl, After, above, along}
use Rattle.plane.proofs.Cells.{corners-under}
use Rattle.rule.specs.Rule.{over, left_of, stops, rect_of, toggle_four, Picked}
use Rattle.rule.specs.Rows.{Accepted}
use Rattle.rule.proofs.Toggle.{odd-four}
use Rattle.rule.proofs.Picks.{after-k, level, l-right_of, gap, higher, clear, over-make}

-- ---- What a step does to the marks

-- the rectangle between K, L and M holds the cells from xK below xL, from yK below M
pub holds-rect : (a b : ℤ) (k l : Point) (m : ℤ) → holds a b (rect_of k l m) ≡ ((le_z k.x a && lt_z a l.x) && (le_z k.y b && lt_z b m))
unfolding holds rect_of
holds-rect a b k l m = rw (far-side k.x l.x, far-side k.y m)

turn : (k l km lm r : Bool) → xor lm (xor km (xor l (xor k r))) ≡ xor (xor k (xor l (xor km lm))) r
turn k l km lm r = simp (xor_assoc, xor-left-comm)

-- a step flips the marks of just its rectangle's cells
pub marks-four : {ps : List Point} {k l : Point} {m : ℤ} → Picked ps k l m → (a b : ℤ) → marks (toggle_four ps k l m) a b ≡ xor (holds a b (rect_of k l m)) (marks ps a b)
unfolding marks
marks-four {ps} {k} {l} {m} c a b =
    odd-four (under a b) ps k l m
    ∙ turn (under a b k) (under a b l) (under a b (record { x = k.x; y = m })) (under a b (record { x = l.x; y = m })) (odd (under a b) ps)
    ∙ rw (holds-rect a b k l m, ← (corners-under a b k.x k.y l.x m (let r = l-right_of c in omega order) (let h = higher c in omega order)), ← level c)

-- ---- The cells of a step's rectangle were marked

-- where every counted row is even, the whole is even
pub even-by-rows : (g : Point → Bool) (r : ℤ → Bool) (ps : List Point) → ((q : Point) → In q ps → r q.y ≡ true → odd (λ p. on_row q.y p && g p) ps ≡ false) → odd (λ p. r p.y && g p) ps ≡ false
unfolding on_row
even-by-rows = classes-even (λ p. p.y) eq_z eq_z-is eq_z-refl

module _ {ps : List Point} {k l : Point} {m : ℤ} (acc : Accepted ps) (c : Picked ps k l m) (a b : ℤ)
    (left : le_z k.x a ≡ true) (right : lt_z a l.x ≡ true) (low : le_z k.y b ≡ true) (high : lt_z b m ≡ true) where
  -- on K's row just K lies at or left of the cell
  row-k : odd (λ p. on_row k.y p && under a b p) ps ≡ true
  unfolding on_row under same
  row-k = odd-cong (λ p. on_row k.y p && under a b p) (same k) ps (λ q n. iff _ _ (there q n) (λ e. back q (same-is k q e))) ∙ odd-one (same k) c.first-k.within (same_refl k) (acc.once k)
    where
      back : (q : Point) → k ≡ q → (on_row k.y q && under a b q) ≡ true
      back q e = rw (← e) (and-make _ _ (eq_z-refl k.y) (and-make _ _ left low))

      column : (q : Point) → In q ps → q.y ≡ k.y → le_z q.x a ≡ true → After q k → k.x ≡ q.x
      column q n e h (above g) = absurd (omega order)
      column q n e h (along d g) = go (lt_z k.x q.x) refl
        where
          go : (t : Bool) → lt_z k.x q.x ≡ t → k.x ≡ q.x
          go true i = let f = gap c q n e i in absurd (omega order)
          go false i = omega order

      there : (q : Point) → In q ps → (on_row k.y q && under a b q) ≡ true → same k q ≡ true
      there q n e =
          let h = and_parts (on_row k.y q) (under a b q) e in
          let g = and_parts (le_z q.x a) (le_z q.y b) h.1 in
          let s : k.x ≡ q.x = column q n (eq_z-is _ _ h.0) g.0 (after-k c q n) in
          and-make (eq_z k.x q.x) (eq_z k.y q.y) (omega order) (omega order)

  above-k : ℤ → Bool
  above-k y = lt_z k.y y && le_z y b

  -- a row above K's and at or below the cell's does not stop, and so is even up to the cell
  row-clear : (q : Point) → In q ps → above-k q.y ≡ true → odd (λ p. on_row q.y p && le_z p.x a) ps ≡ false
  unfolding stops left_of above-k
  row-clear q n e =
      let h = and_parts (lt_z k.y q.y) (le_z q.y b) e in
      let s = or_parts (any (over k.x l.x q.y) ps) (odd (left_of k.x q.y) ps) (clear c q n h.0 (omega order)) in
      odd-cong (λ p. on_row q.y p && le_z p.x a) (left_of k.x q.y) ps (λ p o. beside p o s.0 (on_row q.y p) refl) ∙ s.1
    where
      beside : (p : Point) → In p ps → any (over k.x l.x q.y) ps ≡ false → (t : Bool) → on_row q.y p ≡ t → (t && le_z p.x a) ≡ (t && lt_z p.x k.x)
      beside p o none false d = refl
      beside p o none true d = iff (le_z p.x a) (lt_z p.x k.x) (λ i. go i (lt_z p.x k.x) refl) (λ i. omega order)
        where
          go : le_z p.x a ≡ true → (u : Bool) → lt_z p.x k.x ≡ u → u ≡ true
          go i true f = refl
          go i false f = clash (any-in (over k.x l.x q.y) o (over-make k.x l.x q.y p d (omega order) (omega order))) none

  rows_above : odd (λ p. not (on_row k.y p) && under a b p) ps ≡ false
  unfolding on_row under above-k
  rows_above = odd-cong (λ p. not (on_row k.y p) && under a b p) (λ p. above-k p.y && le_z p.x a) ps (λ q n. go q (after-k c q n)) ∙ even-by-rows (λ p. le_z p.x a) above-k ps row-clear
    where
      shape : (s t u v : Bool) → not s ≡ t → (not s && (u && v)) ≡ ((t && v) && u)
      shape true true u v e = absurd (false≢true e)
      shape true false u v e = refl
      shape false true true true e = refl
      shape false true true false e = refl
      shape false true false true e = refl
      shape false true false false e = refl
      shape false false u v e = absurd (true≢false e)

      go : (q : Point) → After q k → (not (on_row k.y q) && under a b q) ≡ (above-k q.y && le_z q.x a)
      go q (above h) = shape (eq_z q.y k.y) (lt_z k.y q.y) (le_z q.x a) (le_z q.y b) (let f : eq_z q.y k.y ≡ false = omega order in rw (f, h))
      go q (along e h) = shape (eq_z q.y k.y) (lt_z k.y q.y) (le_z q.x a) (le_z q.y b) (let f : eq_z q.y k.y ≡ true = omega order in let g : lt_z k.y q.y ≡ false = omega order in rw (f, g))

  marked : marks ps a b ≡ true
  unfolding marks xor
  marked = odd-split (on_row k.y) (under a b) ps ∙ rw (row-k, rows_above)

-- every cell of a step's rectangle was marked
pub inside : {ps : List Point} {k l : Point} {m : ℤ} → Accepted ps → Picked ps k l m → (a b : ℤ) → holds a b (rect_of k l m) ≡ true → marks ps a b ≡ true
inside {ps} {k} {l} {m} acc c a b e =
    let h = and_parts (le_z k.x a && lt_z a l.x) (le_z k.y b && lt_z b m) (sym (holds-rect a b k l m) ∙ e) in
    let f = and_parts (le_z k.x a) (lt_z a l.x) h.0 in
    let g = and_parts (le_z k.y b) (lt_z b m) h.1 in
    marked acc c a b f.0 f.1 g.0 g.1
