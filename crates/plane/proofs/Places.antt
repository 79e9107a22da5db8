-- What stands at the places of a list and in a stretch of it; tests at its places, and what they say of its elements: every element
-- passes, no point stands twice, and every line of points is even.
use mathlib.Core.Path.{◌≡◌, refl, sym, ap, ◌∙◌, subst}
use mathlib.Core.Logic.Iff
use mathlib.Core.Logic.{◌↔◌}
use Prim.Native.Nat.{ℕ, zero, suc, ◌+◌, ◌-◌, ◌≤◌, ◌<◌}
use native.Mathlib.Nat.{sub-zero}
use native.Mathlib.Numerals.{add-one}
use native.Mathlib.Omega.{arith}
use mathlib.Core.Bool.{Bool, true, false, not, cond}
use mathlib.Core.List.Memᴰ.{head}
use mathlib.Core.List.Memᴰ.{tail}
use mathlib.Core.List.{List, [], ◌∷◌, ◌++◌, Memᴰ as In}
use lib.ListN.{length, get_or, take, drop, set, drop_of_length-le, length-set, length-take, length-drop}
use lib.Seq.{take-nil, take-set-lt, length-take-le, drop-cons, drop-drop, drop-set-lt, get_or-take, get_or-set_same, set_split}
use lib.IntN.{ℤ}
use borrow.Author.Tests.{not-false}
use Rattle.plane.specs.declared.Point.{Point}
use Rattle.plane.specs.Lists.{bit, any, count, odd}
use Rattle.plane.specs.Words.{origin, in_range, point_at, point_in_range, same, on_row, in_column}
use Rattle.plane.proofs.Order.{eq_z-is}
use Rattle.plane.proofs.Bools.{clash, by-no, or_parts}
use Rattle.plane.proofs.Sums.{sum-parts, any-find, count-sum, count-in, count-find}
use Rattle.plane.proofs.Parity.{odd-find}
use Rattle.plane.proofs.Points.{same-is, same_refl}

-- ---- The element at a place

module _ {A : Type 0} where
  -- what stands at a place is an element
  pub in-at : (l : List A) (i : ℕ) (d : A) → i < length l → In (get_or l i d) l
  in-at [] i d h = absurd (omega arith)
  in-at (a ∷ l) zero d h = head refl
  in-at (a ∷ l) (suc i) d h = tail (in-at l i d (omega arith))

  -- an element stands at some place
  at_in : {a : A} {l : List A} (d : A) → In a l → (i : ℕ) × (i < length l) × (get_or l i d ≡ a)
  at_in d (head e) = (0, omega arith, sym e)
  at_in d (tail m) = let r = at_in d m in (suc r.0, omega arith, r.2)

  -- an element set at the last place comes after the others
  pub set_last : (l : List A) (j : ℕ) (a : A) → length l ≡ j + 1 → set l j a ≡ take j l ++ (a ∷ [])
  set_last l j a e = set_split l j a (omega arith) ∙ ap (λ (m : List A). take j l ++ (a ∷ m)) (drop_of_length-le l {i = suc j} (omega arith))

  -- an element set at a place is the first from there on
  pub set_first : (l : List A) (i : ℕ) (a : A) → i < length l → drop i (set l i a) ≡ a ∷ drop (suc i) l
  set_first l i a h = drop-cons (set l i a) i a (simp length-set h) ∙ rw (get_or-set_same l i a a h, drop-set-lt (suc i) l i a (omega arith))

  -- after the first of those from a place on come those from the next place on
  pub rest-next : (l : List A) (i : ℕ) {a : A} {later : List A} → drop i l ≡ a ∷ later → (i < length l) × (drop (i + 1) l ≡ later)
  rest-next l i e = (omega (arith, length-drop i l, ap length e), sym (drop-drop 1 i l) ∙ ap (drop 1) e)

  -- a fact of what stands at every place is a fact of every element
  pub at-every-place : (P : A → Type 0) (l : List A) (d : A) → ((i : ℕ) → i < length l → P (get_or l i d)) ↔ ((a : A) → In a l → P a)
  at-every-place P l d = (λ h a m. let r = at_in d m in subst P r.2 (h r.0 r.1), λ h i k. h (get_or l i d) (in-at l i d k))

  -- every element passes a test, if what stands at every place does
  pub all_pass : (f : A → Bool) (l : List A) (d : A) → ((i : ℕ) → i < length l → not (f (get_or l i d)) ≡ false) ↔ ((a : A) → In a l → f a ≡ true)
  all_pass f l d = Iff.trans (at-every-place (λ a. not (f a) ≡ false) l d) (λ h a m. not-false (f a) (h a m), λ h a m. rw (h a m))

  -- how many pass before a place, and from there on
  count-split : (f : A → Bool) (l : List A) (i : ℕ) → count f l ≡ count f (take i l) + count f (drop i l)
  count-split f l i = omega (arith, sum-parts (λ a. bit (f a)) i l, count-sum f l, count-sum f (take i l), count-sum f (drop i l))

  -- every line is even, if at every place the line of what stands there is; a line is the elements with one key
  lines-even : {B : Type 0} (key : A → B) (f : B → A → Bool) → ((b : B) (a : A) → f b a ≡ true → key a ≡ b) → (l : List A) (d : A) → ((i : ℕ) → i < length l → odd (f (key (get_or l i d))) l ≡ false) ↔ ((b : B) → odd (f b) l ≡ false)
  lines-even key f is l d = (
    λ h b. by-no (odd (f b) l) (λ e.
        let r = odd-find (f b) l e in
        let k : odd (f (key r.0)) l ≡ false = (at-every-place (λ a. odd (f (key a)) l ≡ false) l d).0 h r.0 r.1 in
        clash e (subst (λ z. odd (f z) l ≡ false) (is b r.0 r.2) k)),
    λ h i k. h (key (get_or l i d)),
  )

-- ---- A stretch of a list

module _ {A : Type 0} where
  -- a stretch of a list is its first element and the rest
  pub stretch-next : (l : List A) (i m : ℕ) (d : A) → i < m → m ≤ length l → drop i (take m l) ≡ get_or l i d ∷ drop (i + 1) (take m l)
  stretch-next l i m d h w = rw add-one (drop-cons (take m l) i d (omega (arith, length-take-le m l w)) ∙ rw (get_or-take m l i d h))

  -- from its end on it is empty
  pub stretch-none : (l : List A) (i m : ℕ) → m ≤ i → drop i (take m l) ≡ []
  stretch-none l i m h = drop_of_length-le (take m l) {i = i} (omega (arith, length-take m l))

  -- an element set before it does not change it
  pub stretch-set : (l : List A) (i j m : ℕ) (a : A) → i < j → i < m → drop j (take m (set l i a)) ≡ drop j (take m l)
  stretch-set l i j m a h w = ap (drop j) (take-set-lt m l i a w) ∙ drop-set-lt j (take m l) i a h

  -- it is the start of what is from its first place on
  pub stretch-start : (l : List A) (i m : ℕ) → drop i (take m l) ≡ take (m - i) (drop i l)
  stretch-start l zero m = rw sub-zero
  stretch-start l (suc i) zero = let e : 0 - suc i ≡ 0 = omega arith in rw e
  stretch-start [] (suc i) (suc m) = sym (take-nil (suc m - suc i))
  stretch-start (a ∷ l) (suc i) (suc m) = let e : suc m - suc i ≡ m - i = omega arith in rw e (stretch-start l i m)

-- ---- Points in range

-- where all points are in range, so is the one at every place: where there is none it is (0, 0)
pub at-range : (ps : List Point) → ((q : Point) → In q ps → point_in_range q ≡ true) → (i : ℕ) → point_in_range (point_at ps i) ≡ true
unfolding point_in_range in_range
at-range [] h i = refl
at-range (p ∷ ps) h zero = h p (head refl)
at-range (p ∷ ps) h (suc i) = at-range ps (λ q m. h q (tail m)) i

-- ---- Rows and columns

-- every row is even exactly when at every place the row of the point there is
pub rows-even : (ps : List Point) → ((i : ℕ) → i < length ps → odd (on_row (get_or ps i origin).y) ps ≡ false) ↔ ((y : ℤ) → odd (on_row y) ps ≡ false)
unfolding on_row
rows-even ps = lines-even (λ p. p.y) on_row (λ y p. eq_z-is p.y y) ps origin

-- every column is even exactly when at every place the column of the point there is
pub columns-even : (ps : List Point) → ((i : ℕ) → i < length ps → odd (in_column (get_or ps i origin).x) ps ≡ false) ↔ ((x : ℤ) → odd (in_column x) ps ≡ false)
unfolding in_column
columns-even ps = lines-even (λ p. p.x) in_column (λ x p. eq_z-is p.x x) ps origin

-- ---- Repeats

-- no point stands at an earlier place too, so each stands once
once-of : (ps : List Point) → ((i : ℕ) → i < length ps → any (same (get_or ps i origin)) (take i ps) ≡ false) → (q : Point) → count (same q) ps ≤ 1
unfolding count any
once-of [] h q = omega arith
once-of (p ∷ ps) h q = go (once-of ps (λ i k. (after i k).1) q) (same q p) refl
  where
    after : (i : ℕ) → i < length ps → (same (get_or ps i origin) p ≡ false) × (any (same (get_or ps i origin)) (take i ps) ≡ false)
    after i k = or_parts (same (get_or ps i origin) p) _ (h (suc i) (omega arith))

    apart : (r : Point) → In r ps → same r p ≡ false
    apart = (at-every-place (λ r. same r p ≡ false) ps origin).0 (λ i k. (after i k).0)

    no_more : same q p ≡ true → ¬ (1 ≤ count (same q) ps)
    no_more e k = let r = count-find (same q) ps k in clash (subst (λ z. same z p ≡ true) (same-is q r.0 r.2) e) (apart r.0 r.1)

    go : count (same q) ps ≤ 1 → (b : Bool) → same q p ≡ b → cond b (suc (count (same q) ps)) (count (same q) ps) ≤ 1
    go ih true e = omega (arith, no_more e)
    go ih false e = ih

-- a point that stands once is at no earlier place too
of-once : (ps : List Point) → ((q : Point) → count (same q) ps ≤ 1) → (i : ℕ) → i < length ps → any (same (get_or ps i origin)) (take i ps) ≡ false
of-once ps once i h =
    let q : Point = get_or ps i origin in
    by-no (any (same q) (take i ps)) (λ e.
    let r = any-find (same q) (take i ps) e in
    let a : 1 ≤ count (same q) (take i ps) = count-in (same q) r.1 r.2 in
    let b : 1 ≤ count (same q) (drop i ps) = count-in (same q) (rw (drop-cons ps i origin h) (head refl)) (same_refl q) in
    omega (arith, count-split (same q) ps i, once q))

-- no point equals an earlier one exactly when each stands at most once
pub once-exactly : (ps : List Point) → ((i : ℕ) → i < length ps → any (same (get_or ps i origin)) (take i ps) ≡ false) ↔ ((q : Point) → count (same q) ps ≤ 1)
once-exactly ps = (once-of ps, of-once ps)
