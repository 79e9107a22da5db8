-- The first of n places where a test passes, and the loop that looks for it.
use Prim.Native.Nat.{ℕ, zero, suc, ◌+◌, ◌<◌, ◌≤◌}
use native.Mathlib.Omega.{arith}
use mathlib.Core.Path.{◌≡◌, refl, subst, ◌∙◌}
use mathlib.Core.Bool.{Bool, true, false, not, cond}
use mathlib.Core.List.{List}
use lib.ListN.{length, get_or}
use lib.Dec.{ltb}
use borrow.Author.Tests.{ltb-false}
use Rattle.std.specs.Prelude.{Some, None}
use Rattle.std.specs.List.{position, position_or_len}
use Rattle.std.specs.Option.{unwrap_or}
use Rattle.std.proofs.lemmas.List.Sums.{position_or_len_is, prefix_len-le-length}
use Rattle.plane.proofs.Bools.{clash, by-no, cond-case}
use Rattle.entry.specs.Checks.{first_from, first_bad}

-- no number below i passes a test
abbrev pub NoneBelow : ℕ → (ℕ → Bool) → Type 0
NoneBelow i t = (j : ℕ) → j < i → t j ≡ false

-- where i does not pass either, none below the next does
pub none-below-next : {t : ℕ → Bool} {i : ℕ} → NoneBelow i t → t i ≡ false → NoneBelow (i + 1) t
none-below-next {t} {i} f d j h = by-no (t j) (λ c.
    let a : ¬ (j < i) = λ l. clash c (f j l) in
    let b : j ≡ i = omega arith in
    clash (rw b at c) d)

-- ---- What is found

-- the first place that passes, or else n, where none does
pub data Found (n : ℕ) (t : ℕ → Bool) : ℕ → Type 0 where
  at : {i : ℕ} → i < n → t i ≡ true → NoneBelow i t → Found n t i
  nowhere : NoneBelow n t → Found n t n

pub first_found : (n : ℕ) (t : ℕ → Bool) → Found n t (first_bad n t)
unfolding first_from
first_found n t = from 0 n (omega arith) (λ j h. absurd (omega arith))
  where
    from : (i m : ℕ) → i + m ≡ n → NoneBelow i t → Found n t (first_from i m t)
    from i zero e f = let s : n ≡ i = omega arith in subst (Found n t) s (nowhere (λ j h. f j (omega arith)))
    from i (suc m) e f = cond-case (Found n t) (t i) (λ d. at (omega arith) d f) (λ d. from (suc i) m (omega arith) (λ j h. none-below-next f d j (omega arith)))

-- where the search ends past the last, none passes
pub none-bad : (n : ℕ) (t : ℕ → Bool) → n ≤ first_bad n t → NoneBelow n t
none-bad n t = go (first_found n t)
  where
    go : {i : ℕ} → Found n t i → n ≤ i → NoneBelow n t
    go (at h e f) l = absurd (omega arith)
    go (nowhere f) l = f

-- before the place that is found the test passes nowhere
pub none_before : (n : ℕ) (t : ℕ → Bool) → (first_bad n t ≤ n) × NoneBelow (first_bad n t) t
none_before n t = go (first_found n t)
  where
    go : {i : ℕ} → Found n t i → (i ≤ n) × NoneBelow i t
    go (at h e f) = (omega arith, f)
    go (nowhere f) = (omega arith, f)

-- ---- A loop that goes through the places until a test passes

module _ {n many : ℕ} (places : many ≡ n) {t : ℕ → Bool} {i : ℕ} (none_yet : NoneBelow i t) where
  -- the test passes at place i
  pub found : i < n → t i ≡ true → i ≡ first_bad many t
  found l e = go (first_found many t)
    where
      go : {j : ℕ} → Found many t j → i ≡ j
      go (at {i = j} h d f) =
          let a : ¬ (i < j) = λ k. clash e (f i k) in
          let b : ¬ (j < i) = λ k. clash d (none_yet j k) in
          omega arith
      go (nowhere f) = absurd (clash e (f i (omega arith)))

  -- every place is passed
  pub none_found : i ≤ n → n ≤ i → i ≡ first_bad many t
  none_found h l = go (first_found many t)
    where
      go : {j : ℕ} → Found many t j → i ≡ j
      go (at {i = j} k d f) = absurd (clash d (none_yet j (omega arith)))
      go (nowhere f) = omega arith

-- ---- The library's search through a list

-- the first element that passes a test is at the first place that passes one that is told of places
pub position-first : {A : Type 0} (f : A → Bool) (l : List A) (d : A) (t : ℕ → Bool) → ((i : ℕ) → i < length l → f (get_or l i d) ≡ t i) → position_or_len f l ≡ first_bad (length l) t
position-first f l d t h = go (first_found (length l) t)
  where
    go : {i : ℕ} → Found (length l) t i → position_or_len f l ≡ i
    go (at {i} k e none) = position_or_len_is f l i d (omega arith) (λ j m. h j (omega arith) ∙ none j m) (λ m. h i m ∙ e)
    go (nowhere none) = position_or_len_is f l (length l) d (omega arith) (λ j m. h j m ∙ none j m) (λ m. absurd (omega arith))

-- and where none passes, that is their number
pub or-all : {A : Type 0} (f : A → Bool) (l : List A) {n : ℕ} → n ≡ length l → unwrap_or (position f l) n ≡ position_or_len f l
or-all f l {n} e = go (ltb (position_or_len f l) (length l)) refl
  where
    go : (b : Bool) → ltb (position_or_len f l) (length l) ≡ b → unwrap_or (cond b (Some (position_or_len f l)) None) n ≡ position_or_len f l
    go true h = refl
    go false h = omega (arith, ltb-false _ _ h, prefix_len-le-length (λ a. not (f a)) l)
