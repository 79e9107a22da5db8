-- Laws of `odd`, for any test: over a list, over images, over two tests, and over classes of elements.
use mathlib.Core.Path.{◌≡◌, refl, sym, ap, ◌∙◌}
use Prim.Native.Nat.{◌≤◌}
use native.Mathlib.Omega.{arith}
use mathlib.Core.Bool.{Bool, true, false, not, ◌&&◌, xor, false≢true, and_assoc, and-false}
use mathlib.Core.List.Memᴰ.{head}
use mathlib.Core.List.Memᴰ.{tail}
use mathlib.Core.List.{List, [], ◌∷◌, ◌++◌, map, Memᴰ as In}
use Rattle.plane.specs.Lists.{bit, any, count, odd, sum, keep, only}
use Rattle.plane.proofs.Bools.{clash, by, iff, and_parts, xor_self, xor-false, false-xor, xor-back, xor_assoc, xor-swap, is_odd, is_odd-bit}
use Rattle.plane.proofs.Sums.{sum-zero, any-find, any-in, count-sum, count-in, count_none}

-- over images
pub odd-map : {A B : Type 0} (f : B → Bool) (g : A → B) (l : List A) → odd f (map g l) ≡ odd (λ a. f (g a)) l
unfolding odd
odd-map f g [] = refl
odd-map f g (a ∷ l) = ap (xor (f (g a))) (odd-map f g l)

module _ {A : Type 0} where
  -- of no elements
  pub odd-none-of : (f : A → Bool) → odd f [] ≡ false
  unfolding odd
  odd-none-of f = refl

  -- with one more element
  pub odd-cons : (f : A → Bool) (a : A) (l : List A) → odd f (a ∷ l) ≡ xor (f a) (odd f l)
  unfolding odd
  odd-cons f a l = refl

  -- with one more element, if it is kept
  pub odd-keep : (f : A → Bool) (t : Bool) (a : A) (l : List A) → odd f (keep t a l) ≡ xor (t && f a) (odd f l)
  unfolding odd
  odd-keep f true a l = refl
  odd-keep f false a l = sym (false-xor (odd f l))

  -- a parity is that of a sum
  pub odd-sum : (f : A → Bool) (l : List A) → odd f l ≡ is_odd (sum (λ a. bit (f a)) l)
  unfolding sum odd is_odd
  odd-sum f [] = refl
  odd-sum f (a ∷ l) = rw (odd-sum f l) (sym (is_odd-bit (f a) _))

  -- and that of how many pass
  pub odd-count : (f : A → Bool) (l : List A) → odd f l ≡ is_odd (count f l)
  odd-count f l = odd-sum f l ∙ ap is_odd (sym (count-sum f l))

  -- tests that are equal on the elements
  pub odd-cong : (f g : A → Bool) (l : List A) → ((a : A) → In a l → f a ≡ g a) → odd f l ≡ odd g l
  unfolding odd
  odd-cong f g [] h = refl
  odd-cong f g (a ∷ l) h = rw (h a (head refl), odd-cong f g l (λ b m. h b (tail m)))

  -- where none passes
  pub odd-none : (f : A → Bool) (l : List A) → ((a : A) → In a l → f a ≡ false) → odd f l ≡ false
  unfolding is_odd
  odd-none f l h = odd-sum f l ∙ ap is_odd (sum-zero (λ a. bit (f a)) l (λ a m. ap bit (h a m)))

  -- an odd count is of something
  pub odd-find : (f : A → Bool) (l : List A) → odd f l ≡ true → (a : A) × In a l × (f a ≡ true)
  unfolding is_odd
  odd-find f l e = any-find f l (by (any f l) (λ n. clash e (odd-count f l ∙ ap is_odd (count_none f l n))))

  -- an odd number is at least 1
  pub odd-most : (f : A → Bool) (l : List A) → bit (odd f l) ≤ sum (λ a. bit (f a)) l
  odd-most f l = go (odd f l) refl
    where
      go : (t : Bool) → odd f l ≡ t → bit t ≤ sum (λ a. bit (f a)) l
      go true e = let r = odd-find f l e in omega (arith, count-sum f l, count-in f r.1 r.2)
      go false e = omega arith

  -- one list after another
  pub odd-append : (f : A → Bool) (l m : List A) → odd f (l ++ m) ≡ xor (odd f l) (odd f m)
  unfolding odd
  odd-append f [] m = sym (false-xor (odd f m))
  odd-append f (a ∷ l) m = rw (odd-append f l m) (sym (xor_assoc (f a) (odd f l) (odd f m)))

  -- with one more element at the end
  pub odd-last-added : (f : A → Bool) (l : List A) (a : A) → odd f (l ++ (a ∷ [])) ≡ xor (odd f l) (f a)
  odd-last-added f l a = odd-append f l (a ∷ []) ∙ rw (odd-cons, odd-none-of f, xor-false)

  -- without the same first element
  pub odd-rest : (f : A → Bool) (a : A) (l m : List A) → odd f (a ∷ l) ≡ odd f (a ∷ m) → odd f l ≡ odd f m
  unfolding odd
  odd-rest f a l m e = sym (xor-back (f a) (odd f l)) ∙ ap (xor (f a)) e ∙ xor-back (f a) (odd f m)

  -- of two tests, exclusive or
  pub odd-xor : (f g : A → Bool) (l : List A) → odd (λ a. xor (f a) (g a)) l ≡ xor (odd f l) (odd g l)
  unfolding odd
  odd-xor f g [] = sym (xor_self false)
  odd-xor f g (a ∷ l) = rw (odd-xor f g l) (xor-swap (f a) (g a) (odd f l) (odd g l))

  -- the parity of a test splits by another test
  pub odd-split : (t f : A → Bool) (l : List A) → odd f l ≡ xor (odd (λ a. t a && f a) l) (odd (λ a. not (t a) && f a) l)
  odd-split t f l = odd-cong f (λ a. xor (t a && f a) (not (t a) && f a)) l (λ a m. go (t a) (f a)) ∙ odd-xor (λ a. t a && f a) (λ a. not (t a) && f a) l
    where
      go : (b c : Bool) → c ≡ xor (b && c) (not b && c)
      go true c = sym (xor-false c)
      go false c = sym (false-xor c)

  -- the parity of a test over the elements that pass another
  pub odd-only : (f g : A → Bool) (l : List A) → odd f (only g l) ≡ odd (λ a. g a && f a) l
  unfolding odd only
  odd-only f g [] = refl
  odd-only f g (a ∷ l) = odd-keep f (g a) a (only g l) ∙ ap (xor (g a && f a)) (odd-only f g l)

  -- a test that just one element passes
  pub odd-one : (f : A → Bool) {l : List A} {a : A} → In a l → f a ≡ true → count f l ≤ 1 → odd f l ≡ true
  unfolding is_odd
  odd-one f {l} m h k =
      let low = count-in f m h in
      let e : sum (λ a. bit (f a)) l ≡ 1 = omega (arith, count-sum f l) in
      odd-sum f l ∙ ap is_odd e

  -- what passes at most once passes an odd number of times just if it passes
  pub once-odd : (f : A → Bool) (l : List A) → count f l ≤ 1 → odd f l ≡ any f l
  once-odd f l k = iff (odd f l) (any f l) (λ e. let r = odd-find f l e in any-in f r.1 r.2) (λ e. let r = any-find f l e in odd-one f r.1 r.2 k)

  -- ---- Classes: the elements with one key. Where every counted class is even, the whole is even

  module _ {B : Type 0} (key : A → B) (e : B → B → Bool) (is : (u v : B) → e u v ≡ true → u ≡ v) (self : (u : B) → e u u ≡ true) where
    -- over the classes of a list `rest`
    peel : (g : A → Bool) (l rest : List A) (r : B → Bool) → ((q : A) → In q l → r (key q) ≡ true → any (λ p. e (key p) (key q)) rest ≡ true) → ((q : A) → In q rest → r (key q) ≡ true → odd (λ p. e (key p) (key q) && g p) l ≡ false) → odd (λ p. r (key p) && g p) l ≡ false
    unfolding any
    peel g l [] r some even = odd-none (λ p. r (key p) && g p) l (λ q m. go q (r (key q)) (λ d. false≢true (some q m d)))
      where
        go : (q : A) (b : Bool) → (b ≡ true → ⊥) → (b && g q) ≡ false
        go q true n = absurd (n refl)
        go q false n = refl
    peel g l (z ∷ rest) r some even =
        odd-split at-z (λ p. r (key p) && g p) l
        ∙ ap (λ t. xor t (odd (λ p. not (at-z p) && (r (key p) && g p)) l)) (one_class (r (key z)) refl)
        ∙ false-xor _
        ∙ odd-cong (λ p. not (at-z p) && (r (key p) && g p)) (λ p. r' (key p) && g p) l (λ q m. sym (and_assoc (not (at-z q)) (r (key q)) (g q)))
        ∙ peel g l rest r' some' (λ q m d. even q (tail m) (and_parts (not (at-z q)) (r (key q)) d).1)
      where
        at-z : A → Bool
        at-z p = e (key p) (key z)

        r' : B → Bool
        r' u = not (e u (key z)) && r u

        one_key : (q : A) (c : Bool) → at-z q ≡ c → (c && (r (key q) && g q)) ≡ (c && (r (key z) && g q))
        one_key q true d = ap (λ u. r u && g q) (is (key q) (key z) d)
        one_key q false d = refl

        one_class : (b : Bool) → r (key z) ≡ b → odd (λ p. at-z p && (r (key p) && g p)) l ≡ false
        one_class true d = odd-cong (λ p. at-z p && (r (key p) && g p)) (λ p. at-z p && g p) l (λ q m. one_key q (at-z q) refl ∙ rw d) ∙ even z (head refl) d
        one_class false d = odd-none (λ p. at-z p && (r (key p) && g p)) l (λ q m. one_key q (at-z q) refl ∙ rw d (and-false (at-z q)))

        apart : (q : A) (c : Bool) → e (key z) (key q) ≡ c → not (at-z q) ≡ true → c ≡ false
        apart q true c d = absurd (false≢true (sym (rw (is (key z) (key q) c, self (key q))) ∙ d))
        apart q false c d = refl

        some' : (q : A) → In q l → r' (key q) ≡ true → any (λ p. e (key p) (key q)) rest ≡ true
        some' q m d =
            let h = and_parts (not (at-z q)) (r (key q)) d in
            rw (apart q (e (key z) (key q)) refl h.0) at (some q m h.1)

    pub classes-even : (g : A → Bool) (r : B → Bool) (l : List A) → ((q : A) → In q l → r (key q) ≡ true → odd (λ p. e (key p) (key q) && g p) l ≡ false) → odd (λ p. r (key p) && g p) l ≡ false
    classes-even g r l even = peel g l l r (λ q m d. any-in (λ p. e (key p) (key q)) m (self (key q))) even
