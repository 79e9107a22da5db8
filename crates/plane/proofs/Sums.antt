-- Sums of a weight over a list, what holds of all its elements, and what passes a test: any, how many; sums over the numbers below n.
use mathlib.Core.Path.{◌≡◌, refl, ap, ap₂, fun_ext, sym, ◌∙◌, subst}
use mathlib.Core.Logic.{⊎_elim}
use Prim.Native.Nat.{ℕ, zero, suc, ◌+◌, ◌-◌, ◌*◌, ◌≤◌, ◌<◌}
use native.Mathlib.Numerals.{add-one}
use native.Mathlib.Omega.{arith}
use native.Mathlib.Decide.{ℕ_discrete}
use mathlib.Core.Bool.{Bool, true, false, cond, ◌&&◌, ◌||◌, false≢true, or-false, or_assoc}
use mathlib.Core.List.Memᴰ.{append_cases}
use mathlib.Core.List.Memᴰ.{eq_of_singleton}
use mathlib.Core.List.Memᴰ.{head}
use mathlib.Core.List.Memᴰ.{tail}
use mathlib.Core.List.{List, [], ◌∷◌, ◌++◌, Memᴰ as In}
use lib.ListN.{length, get_or, take, drop, set, take-append-drop, length-set}
use lib.Seq.{take-suc, take-length, get_or-set_same, get_or-set_other}
use Rattle.plane.specs.Lists.{bit, any, count, sum, keep, only, sum_below}
use Rattle.plane.proofs.Bools.{by, cond-le, or_parts, or_right}

module _ {A : Type 0} where
  -- ---- Sums

  -- one list after another
  pub sum-append : (w : A → ℕ) (l m : List A) → sum w (l ++ m) ≡ sum w l + sum w m
  unfolding sum
  sum-append w [] m = omega arith
  sum-append w (a ∷ l) m = let ih = sum-append w l m in omega arith

  -- a list cut in two
  pub sum-parts : (w : A → ℕ) (i : ℕ) (l : List A) → sum w (take i l) + sum w (drop i l) ≡ sum w l
  sum-parts w i l = sym (sum-append w (take i l) (drop i l)) ∙ ap (sum w) (take-append-drop i l)

  -- with one more element at the end
  pub sum-last-added : (w : A → ℕ) (l : List A) (a : A) → sum w (l ++ (a ∷ [])) ≡ sum w l + w a
  unfolding sum
  sum-last-added w l a = omega (arith, sum-append w l (a ∷ []))

  -- with another element set at a place
  sum-set : (w : A → ℕ) (l : List A) (i : ℕ) (a d : A) → i < length l → sum w (set l i a) + w (get_or l i d) ≡ sum w l + w a
  unfolding sum
  sum-set w [] i a d h = absurd (omega arith)
  sum-set w (x ∷ xs) zero a d h = omega arith
  sum-set w (x ∷ xs) (suc i) a d h = let ih = sum-set w xs i a d (omega arith) in omega arith

  -- without the last element, and this
  sum-last : (w : A → ℕ) (l : List A) (d : A) (j : ℕ) → length l ≡ suc j → sum w (take j l) + w (get_or l j d) ≡ sum w l
  unfolding sum
  sum-last w [] d j e = absurd (omega arith)
  sum-last w (x ∷ []) d zero e = omega arith
  sum-last w (x ∷ y ∷ l) d zero e = absurd (omega arith)
  sum-last w (x ∷ xs) d (suc j) e = let ih = sum-last w xs d j (omega arith) in omega arith

  -- an element of a list set elsewhere in it still stands at its own place
  last_set : (l : List A) (i j : ℕ) (d : A) → i < length l → get_or (set l i (get_or l j d)) j d ≡ get_or l j d
  last_set l i j d h = go (ℕ_discrete j i)
    where
      go : Dec (j ≡ i) → get_or (set l i (get_or l j d)) j d ≡ get_or l j d
      go (yes e) = rw e (get_or-set_same l i _ d h)
      go (no n) = get_or-set_other l i j _ d n

  -- the last element moves into place i
  pub sum-remove : (w : A → ℕ) (l : List A) (i : ℕ) (d : A) → i < length l → sum w (take (length l - 1) (set l i (get_or l (length l - 1) d))) + w (get_or l i d) ≡ sum w l
  sum-remove w l i d h =
      let j : ℕ = length l - 1 in
      let v : A = get_or l j d in
      let a : sum w (set l i v) + w (get_or l i d) ≡ sum w l + w v = sum-set w l i v d h in
      let b : sum w (take j (set l i v)) + w (get_or (set l i v) j d) ≡ sum w (set l i v) = sum-last w (set l i v) d j (length-set l i v ∙ omega arith) in
      let c : w (get_or (set l i v) j d) ≡ w v = ap w (last_set l i j d h) in
      omega arith

  -- two elements change places
  pub sum-swap : (w : A → ℕ) (l : List A) (i j : ℕ) (d : A) → i < length l → j < length l → sum w (set (set l i (get_or l j d)) j (get_or l i d)) ≡ sum w l
  sum-swap w l i j d h g =
      let v : A = get_or l j d in
      omega (arith, sum-set w l i v d h, sum-set w (set l i v) j (get_or l i d) d (rw length-set g), ap w (last_set l i j d h))

  -- an element weighs at most the sum
  pub sum-in : (w : A → ℕ) {a : A} {l : List A} → In a l → w a ≤ sum w l
  unfolding sum
  sum-in w {l = []} m = elim m [ ]
  sum-in w {a} {l = b ∷ l} (head e) = let c : w a ≡ w b = ap w e in omega arith
  sum-in w {l = b ∷ l} (tail m) = let h = sum-in w m in omega arith

  -- with at most c for each
  pub sum-most : (w : A → ℕ) (c : ℕ) (l : List A) → ((a : A) → In a l → w a ≤ c) → sum w l ≤ length l * c
  unfolding sum
  sum-most w c [] h = omega arith
  sum-most w c (a ∷ l) h = let i = sum-most w c l (λ b m. h b (tail m)) in let j = h a (head refl) in omega arith

  -- with 0 for each
  pub sum-zero : (w : A → ℕ) (l : List A) → ((a : A) → In a l → w a ≡ 0) → sum w l ≡ 0
  sum-zero w l h = let k = sum-most w 0 l (λ a m. omega (arith, h a m)) in omega arith

  -- weights that are equal on the elements
  pub sum-cong : (u v : A → ℕ) (l : List A) → ((a : A) → In a l → u a ≡ v a) → sum u l ≡ sum v l
  unfolding sum
  sum-cong u v [] h = refl
  sum-cong u v (a ∷ l) h = ap₂ ◌+◌ (h a (head refl)) (sum-cong u v l (λ b m. h b (tail m)))

  -- two weights added
  pub sum-add : (u v : A → ℕ) (l : List A) → sum (λ a. u a + v a) l ≡ sum u l + sum v l
  unfolding sum
  sum-add u v [] = omega arith
  sum-add u v (a ∷ l) = let ih = sum-add u v l in omega arith

  -- with 1 for each
  pub sum-length : (l : List A) → sum (λ a. 1) l ≡ length l
  unfolding sum
  sum-length [] = refl
  sum-length (a ∷ l) = let h = sum-length l in omega arith

  -- ---- What holds of all

  -- with one more element at the end
  pub all-last-added : (P : A → Type 0) (l : List A) (a : A) → ((b : A) → In b l → P b) → P a → (b : A) → In b (l ++ (a ∷ [])) → P b
  all-last-added P l a h g b m = ⊎_elim (h b) (λ (n : In b (a ∷ [])). subst P (sym (eq_of_singleton n)) g) (append_cases l m)

  -- ---- Some element passes

  -- where some element passes, one that does
  pub any-find : (f : A → Bool) (l : List A) → any f l ≡ true → (a : A) × In a l × (f a ≡ true)
  unfolding any
  any-find f [] e = absurd (false≢true e)
  any-find f (a ∷ l) e = go (any-find f l) (f a) refl e
    where
      go : (any f l ≡ true → (b : A) × In b l × (f b ≡ true)) → (t : Bool) → f a ≡ t → (t || any f l) ≡ true → (b : A) × In b (a ∷ l) × (f b ≡ true)
      go ih true h e = (a, head refl, h)
      go ih false h e = let r = ih e in (r.0, tail r.1, r.2)

  -- where an element passes, some does
  pub any-in : (f : A → Bool) {a : A} {l : List A} → In a l → f a ≡ true → any f l ≡ true
  unfolding any
  any-in f {l = []} m h = elim m [ ]
  any-in f {l = b ∷ l} (head e) h = rw (← e, h)
  any-in f {l = b ∷ l} (tail m) h = or_right (f b) _ (any-in f m h)

  -- with one more element at the end
  pub any-last-added : (f : A → Bool) (l : List A) (a : A) → any f (l ++ (a ∷ [])) ≡ (any f l || f a)
  unfolding any
  any-last-added f [] a = or-false (f a)
  any-last-added f (b ∷ l) a = rw (any-last-added f l a) (sym (or_assoc (f b) (any f l) (f a)))

  -- of the elements that pass one test, some passes another
  pub any-only : (f g : A → Bool) (l : List A) → any f (only g l) ≡ any (λ a. g a && f a) l
  unfolding any only
  any-only f g [] = refl
  any-only f g (a ∷ l) = go (any-only f g l) (g a)
    where
      go : any f (only g l) ≡ any (λ b. g b && f b) l → (t : Bool) → any f (keep t a (only g l)) ≡ ((t && f a) || any (λ b. g b && f b) l)
      go ih true = rw ih
      go ih false = ih

  -- ---- How many pass

  -- a count is a sum
  pub count-sum : (f : A → Bool) (l : List A) → count f l ≡ sum (λ a. bit (f a)) l
  unfolding sum count
  count-sum f [] = refl
  count-sum f (a ∷ l) = go (count-sum f l) (f a)
    where
      go : {m n : ℕ} → m ≡ n → (b : Bool) → cond b (suc m) m ≡ bit b + n
      go ih true = omega arith
      go ih false = omega arith

  -- where an element passes, at least one does
  pub count-in : (f : A → Bool) {l : List A} {a : A} → In a l → f a ≡ true → 1 ≤ count f l
  count-in f {l} {a} m h = let e : bit (f a) ≡ 1 = ap bit h in omega (arith, count-sum f l, sum-in (λ b. bit (f b)) m)

  -- where none passes, the count is 0
  pub count_none : (f : A → Bool) (l : List A) → any f l ≡ false → count f l ≡ 0
  unfolding any count
  count_none f [] e = refl
  count_none f (a ∷ l) e = let h = or_parts (f a) (any f l) e in rw h.0 (count_none f l h.1)

  -- where at least one passes, one that does
  pub count-find : (f : A → Bool) (l : List A) → 1 ≤ count f l → (a : A) × In a l × (f a ≡ true)
  count-find f l h = any-find f l (by (any f l) (λ e. let z = count_none f l e in omega arith))

  -- a wider test counts no less
  pub count-mono : (f g : A → Bool) (l : List A) → ((a : A) → In a l → f a ≡ true → g a ≡ true) → count f l ≤ count g l
  unfolding count
  count-mono f g [] s = omega arith
  count-mono f g (a ∷ l) s = cond-le (f a) (g a) (s a (head refl)) (count-mono f g l (λ b m. s b (tail m)))

  -- no more pass than there are
  pub count-length : (f : A → Bool) (l : List A) → count f l ≤ length l
  unfolding count
  count-length f [] = omega arith
  count-length f (a ∷ l) = cond-le (f a) true (λ _. refl) (count-length f l)

  -- a wider test that some element tells apart counts more
  pub count_less : (f g : A → Bool) {a : A} {l : List A} → ((b : A) → f b ≡ true → g b ≡ true) → In a l → f a ≡ false → g a ≡ true → count f l < count g l
  unfolding count
  count_less f g {l = []} s m h k = elim m [ ]
  count_less f g {l = b ∷ l} s (head e) h k = let i = count-mono f g l (λ b m. s b) in rw (← e, h, k) (omega arith)
  count_less f g {l = b ∷ l} s (tail m) h k = go (f b) (g b) (s b) (count_less f g s m h k)
    where
      go : {m n : ℕ} (t u : Bool) → (t ≡ true → u ≡ true) → m < n → cond t (suc m) m < cond u (suc n) n
      go true true s h = omega arith
      go true false s h = absurd (false≢true (s refl))
      go false true s h = omega arith
      go false false s h = h

  -- ---- The elements that pass

  -- what holds of a list both with an element before it and without it
  pub keep-case : (P : List A → Type 0) (t : Bool) (a : A) (l : List A) → P (a ∷ l) → P l → P (keep t a l)
  keep-case P true a l h g = h
  keep-case P false a l h g = g

  -- an element before a list, and another list after it
  pub keep_append : (t : Bool) (a : A) (l m : List A) → keep t a l ++ m ≡ keep t a (l ++ m)
  keep_append true a l m = refl
  keep_append false a l m = refl

  -- what passes is an element
  pub in-only : (f : A → Bool) (l : List A) {a : A} → In a (only f l) → In a l
  unfolding only
  in-only f [] m = elim m [ ]
  in-only f (b ∷ l) m = go (in-only f l) (f b) m
    where
      go : {a : A} → (In a (only f l) → In a l) → (t : Bool) → In a (keep t b (only f l)) → In a (b ∷ l)
      go ih true (head e) = head e
      go ih true (tail n) = tail (ih n)
      go ih false n = tail (ih n)

  -- and passes
  pub only-passes : (f : A → Bool) (l : List A) {a : A} → In a (only f l) → f a ≡ true
  unfolding only
  only-passes f [] m = elim m [ ]
  only-passes f (b ∷ l) m = go (only-passes f l) (f b) refl m
    where
      go : {a : A} → (In a (only f l) → f a ≡ true) → (t : Bool) → f b ≡ t → In a (keep t b (only f l)) → f a ≡ true
      go ih true d (head e) = ap f e ∙ d
      go ih true d (tail n) = ih n
      go ih false d n = ih n

  -- a weight summed over what passes
  pub sum-only : (w : A → ℕ) (f : A → Bool) (l : List A) → sum w (only f l) ≡ sum (λ a. bit (f a) * w a) l
  unfolding sum only
  sum-only w f [] = refl
  sum-only w f (a ∷ l) = go (f a) (sum-only w f l)
    where
      go : (t : Bool) → sum w (only f l) ≡ sum (λ b. bit (f b) * w b) l → sum w (keep t a (only f l)) ≡ bit t * w a + sum (λ b. bit (f b) * w b) l
      go true ih = omega arith
      go false ih = omega arith

  -- how many pass a test of those that pass another
  pub count-only : (f g : A → Bool) (l : List A) → count f (only g l) ≡ count (λ a. g a && f a) l
  unfolding count only
  count-only f g [] = refl
  count-only f g (a ∷ l) = go (count-only f g l) (g a)
    where
      go : count f (only g l) ≡ count (λ b. g b && f b) l → (t : Bool) → count f (keep t a (only g l)) ≡ cond (t && f a) (suc (count (λ b. g b && f b) l)) (count (λ b. g b && f b) l)
      go ih true = rw ih
      go ih false = ih

  -- no more pass than there are
  pub length-only : (f : A → Bool) (l : List A) → length (only f l) ≤ length l
  unfolding only
  length-only f [] = omega arith
  length-only f (a ∷ l) = let h = length-only f l in keep-case (λ (m : List A). length m ≤ length (a ∷ l)) (f a) a (only f l) (omega arith) (omega arith)

  -- where each passes, all are left
  pub only-all : (f : A → Bool) (l : List A) → ((a : A) → In a l → f a ≡ true) → only f l ≡ l
  unfolding only
  only-all f [] h = refl
  only-all f (a ∷ l) h = rw (h a (head refl)) (ap (λ m. a ∷ m) (only-all f l (λ b m. h b (tail m))))

  -- where none does, nothing is
  pub only_none : (f : A → Bool) (l : List A) → ((a : A) → In a l → f a ≡ false) → only f l ≡ []
  unfolding only
  only_none f [] h = refl
  only_none f (a ∷ l) h = rw (h a (head refl)) (only_none f l (λ b m. h b (tail m)))

-- ---- Sums over the numbers below n

-- equal weights have equal sums
pub below-cong : (n : ℕ) {u v : ℕ → ℕ} → ((i : ℕ) → u i ≡ v i) → sum_below n u ≡ sum_below n v
below-cong n h = ap (sum_below n) (fun_ext h)

-- weights of at most c
pub below-most : (n c : ℕ) (u : ℕ → ℕ) → ((i : ℕ) → u i ≤ c) → sum_below n u ≤ n * c
unfolding sum_below
below-most zero c u h = omega arith
below-most (suc n) c u h = let ih = below-most n c u h in omega (arith, h n)

-- weights that are no greater
pub below-le : (n : ℕ) (u v : ℕ → ℕ) → ((i : ℕ) → u i ≤ v i) → sum_below n u ≤ sum_below n v
unfolding sum_below
below-le zero u v h = omega arith
below-le (suc n) u v h = omega (arith, h n, below-le n u v h)

-- weights of 0
pub below-zero : (n : ℕ) (w : ℕ → ℕ) → ((i : ℕ) → w i ≡ 0) → sum_below n w ≡ 0
below-zero n w h = omega (arith, below-most n 0 w (λ i. omega (arith, h i)))

-- a sum that is not 0 has a number that weighs something
pub below-find : (n : ℕ) (w : ℕ → ℕ) → 0 < sum_below n w → (i : ℕ) × (i < n) × (0 < w i)
unfolding sum_below
below-find zero w h = absurd (omega arith)
below-find (suc n) w h = go (ℕ_discrete (w n) 0) (below-find n w)
  where
    go : Dec (w n ≡ 0) → (0 < sum_below n w → (i : ℕ) × (i < n) × (0 < w i)) → (i : ℕ) × (i < suc n) × (0 < w i)
    go (yes e) ih = let r = ih (omega arith) in (r.0, omega (arith, r.1), r.2)
    go (no d) ih = (n, omega arith, omega arith)

-- two weights added
pub below-plus : (n : ℕ) (u v : ℕ → ℕ) → sum_below n (λ i. u i + v i) ≡ sum_below n u + sum_below n v
unfolding sum_below
below-plus zero u v = omega arith
below-plus (suc n) u v = let ih = below-plus n u v in omega arith

-- a weight times a number
pub below-times : (n c : ℕ) (u : ℕ → ℕ) → sum_below n (λ i. u i * c) ≡ sum_below n u * c
unfolding sum_below
below-times zero c u = omega arith
below-times (suc n) c u = omega (arith, below-times n c u)

-- sums of sums, added up the other way round
pub below-swap : (n m : ℕ) (w : ℕ → ℕ → ℕ) → sum_below n (λ i. sum_below m (λ j. w i j)) ≡ sum_below m (λ j. sum_below n (λ i. w i j))
unfolding sum_below
below-swap zero m w = sym (below-zero m (λ j. 0) (λ j. refl))
below-swap (suc n) m w = ap (λ k. sum_below m (w n) + k) (below-swap n m w) ∙ sym (below-plus m (w n) (λ j. sum_below n (λ i. w i j)))

-- sums over a list, added up the other way round
pub below-sum : {A : Type 0} (n : ℕ) (w : ℕ → A → ℕ) (l : List A) → sum_below n (λ i. sum (w i) l) ≡ sum (λ a. sum_below n (λ i. w i a)) l
unfolding sum_below
below-sum zero w l = sym (sum-zero (λ a. 0) l (λ a m. refl))
below-sum (suc n) w l = ap (λ k. sum (w n) l + k) (below-sum n w l) ∙ sym (sum-add (w n) (λ a. sum_below n (λ i. w i a)) l)

-- the pairs of which both sides pass their test
pub below-pairs : (f g : ℕ → Bool) (n m : ℕ) → sum_below n (λ i. sum_below m (λ j. bit (f i && g j))) ≡ sum_below n (λ i. bit (f i)) * sum_below m (λ j. bit (g j))
unfolding sum_below
below-pairs f g zero m = omega arith
below-pairs f g (suc n) m = go (f n) _ _ (below-pairs f g n m)
  where
    go : (b : Bool) (p q : ℕ) → p ≡ q * sum_below m (λ j. bit (g j)) → sum_below m (λ j. bit (b && g j)) + p ≡ (bit b + q) * sum_below m (λ j. bit (g j))
    go true p q ih = omega arith
    go false p q ih = omega (arith, below-zero m (λ j. 0) (λ j. refl))

-- with one more number
pub below_next : (n : ℕ) (w : ℕ → ℕ) → sum_below (n + 1) w ≡ w n + sum_below n w
unfolding sum_below
below_next n w = rw add-one

module _ (w : ℕ → ℕ) where
  -- below d numbers more the sum is no less
  below-add : (m d : ℕ) → sum_below m w ≤ sum_below (m + d) w
  unfolding sum_below
  below-add m zero = let e : m + 0 ≡ m = omega arith in rw e (omega arith)
  below-add m (suc d) = let e : m + suc d ≡ suc (m + d) = omega arith in rw e (omega (arith, below-add m d))

  -- so it is for any larger number
  pub below-grows : {m n : ℕ} → m ≤ n → sum_below m w ≤ sum_below n w
  below-grows {m} {n} h = let e : m + (n - m) ≡ n = omega arith in rw e at (below-add m (n - m))

  -- nor is it less than the weight of one of them
  pub below-has : {i n : ℕ} → i < n → w i ≤ sum_below n w
  unfolding sum_below
  below-has {i} {n} h = let g : sum_below (suc i) w ≤ sum_below n w = below-grows h in omega arith

  module _ {A : Type 0} (f : A → ℕ) (l : List A) (d : A) (same : (i : ℕ) → i < length l → w i ≡ f (get_or l i d)) where
    -- where each number weighs what stands at its place in a list, the sum is that over the list's start
    below-first : (n : ℕ) → n ≤ length l → sum_below n w ≡ sum f (take n l)
    unfolding sum_below sum
    below-first zero h = refl
    below-first (suc n) h = rw (take-suc l n d h) (omega (arith, below-first n (omega arith), same n h, sum-last-added f (take n l) (get_or l n d)))

    -- and that over the list
    pub below-list : sum_below (length l) w ≡ sum f l
    below-list = below-first (length l) (omega arith) ∙ ap (sum f) (take-length l)
