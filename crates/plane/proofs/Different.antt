-- The different numbers of a list: each of its numbers once, and no other; so a sum over them is a sum over all numbers.
use mathlib.Core.Path.{◌≡◌, refl, sym, ap, ◌∙◌, subst}
use Prim.Native.Nat.{ℕ, suc, ◌+◌, ◌*◌, ◌≤◌}
use native.Mathlib.Omega.{arith}
use mathlib.Core.Bool.{Bool, true, false, not, cond, ◌&&◌, ◌||◌}
use mathlib.Core.List.{List, [], ◌∷◌, Memᴰ as In}
use lib.ListN.{length}
use lib.IntN.{ℤ, pos, ◌+ℤ◌}
use lib.Signed.{le_z, lt_z}
use Rattle.plane.specs.Lists.{bit, any, count, sum, keep, sum_below}
use Rattle.plane.specs.Words.{eq_z, different}
use Rattle.plane.proofs.Order.{order, eq_z-is, eq_z-refl, next_up, distance-up}
use Rattle.plane.proofs.Bools.{by}
use Rattle.plane.proofs.Sums.{sum-cong, any-find, any-in, count-in, count-find, below-cong, below-sum, below-times}
use Rattle.plane.proofs.Grid.{distance-counts}

-- each number of a list is once among the different ones, and no other is
pub different-once : (z : ℤ) (zs : List ℤ) → count (eq_z z) (different zs) ≡ bit (any (eq_z z) zs)
unfolding count any different
different-once z [] = refl
different-once z (y ∷ ys) = go (any (eq_z y) ys) refl (eq_z z y) refl (different-once z ys)
  where
    go : (b : Bool) → any (eq_z y) ys ≡ b → (c : Bool) → eq_z z y ≡ c → count (eq_z z) (different ys) ≡ bit (any (eq_z z) ys) → count (eq_z z) (keep (not b) y (different ys)) ≡ bit (c || any (eq_z z) ys)
    go true e true d h = h ∙ ap bit (ap (λ v. any (eq_z v) ys) (eq_z-is z y d) ∙ e)
    go true e false d h = h
    go false e true d h = rw (d, h ∙ ap bit (ap (λ v. any (eq_z v) ys) (eq_z-is z y d) ∙ e))
    go false e false d h = rw d h

-- so a number of the list is one of them
pub different-has : (z : ℤ) (zs : List ℤ) → any (eq_z z) zs ≡ true → any (eq_z z) (different zs) ≡ true
different-has z zs e =
    let one : count (eq_z z) (different zs) ≡ 1 = different-once z zs ∙ ap bit e in
    let r = count-find (eq_z z) (different zs) (omega arith) in
    any-in (eq_z z) r.1 r.2

-- one of them is a number of the list
different-in : {z : ℤ} (zs : List ℤ) → In z (different zs) → In z zs
different-in {z} zs m =
    let there : any (eq_z z) zs ≡ true = by (any (eq_z z) zs) (λ e. let none : bit (any (eq_z z) zs) ≡ 0 = ap bit e in omega (arith, different-once z zs, count-in (eq_z z) m (eq_z-refl z))) in
    let r = any-find (eq_z z) zs there in
    subst (λ y. In y zs) (sym (eq_z-is z r.0 r.2)) r.1

-- they are no more than the list has
pub different-few : (zs : List ℤ) → length (different zs) ≤ length zs
unfolding different
different-few [] = omega arith
different-few (z ∷ zs) = go (any (eq_z z) zs) (different-few zs)
  where
    go : (b : Bool) → length (different zs) ≤ length zs → length (keep (not b) z (different zs)) ≤ suc (length zs)
    go true h = omega arith
    go false h = omega arith

-- ---- Sums

-- a number is itself once among the n numbers from z on
pub one_place : (z x : ℤ) (n : ℕ) → le_z z x ≡ true → lt_z x (z +ℤ pos n) ≡ true → sum_below n (λ j. bit (eq_z (z +ℤ pos j) x)) ≡ 1
one_place z x n h k =
    below-cong n (λ j. ap bit (is (z +ℤ pos j)))
    ∙ distance-counts z x (x +ℤ pos 1) n h (omega (order, next_up x)) (omega (order, next_up x))
    ∙ omega (order, next_up x, distance-up x (x +ℤ pos 1) (omega (order, next_up x)))
  where
    is : (c : ℤ) → eq_z c x ≡ (le_z x c && lt_z c (x +ℤ pos 1))
    is c = go (le_z x c) refl (lt_z c (x +ℤ pos 1)) refl
      where
        go : (s : Bool) → le_z x c ≡ s → (t : Bool) → lt_z c (x +ℤ pos 1) ≡ t → eq_z c x ≡ (s && t)
        go true d true e = omega (order, next_up x)
        go true d false e = omega (order, next_up x)
        go false d t e = omega order

module _ (w : ℤ → ℕ) where
  -- of a list, the weights of the numbers that are x
  pub at-number : (x : ℤ) (zs : List ℤ) → sum (λ z. bit (eq_z x z) * w z) zs ≡ count (eq_z x) zs * w x
  unfolding sum count
  at-number x [] = omega arith
  at-number x (z ∷ zs) = go (eq_z x z) refl (at-number x zs)
    where
      go : (b : Bool) → eq_z x z ≡ b → sum (λ z. bit (eq_z x z) * w z) zs ≡ count (eq_z x) zs * w x → bit b * w z + sum (λ z. bit (eq_z x z) * w z) zs ≡ cond b (suc (count (eq_z x) zs)) (count (eq_z x) zs) * w x
      go true e ih = rw (← eq_z-is x z e) (omega arith)
      go false e ih = omega arith

  module _ (zs : List ℤ) (none : (x : ℤ) → any (eq_z x) zs ≡ false → w x ≡ 0) where
    -- a weight of 0 but for the numbers of a list is summed over these, each once
    at-different : (x : ℤ) → w x ≡ sum (λ z. bit (eq_z x z) * w z) (different zs)
    at-different x = go (any (eq_z x) zs) refl (different-once x zs)
      where
        go : (b : Bool) → any (eq_z x) zs ≡ b → count (eq_z x) (different zs) ≡ bit b → w x ≡ sum (λ z. bit (eq_z x z) * w z) (different zs)
        go true e c = sym (at-number x (different zs) ∙ rw c (omega arith))
        go false e c = none x e ∙ sym (at-number x (different zs) ∙ rw c (omega arith))

    -- so its sum over the n numbers from z on is that over these
    pub below-different : (z : ℤ) (n : ℕ) → ((x : ℤ) → In x zs → (le_z z x ≡ true) × (lt_z x (z +ℤ pos n) ≡ true)) → sum_below n (λ j. w (z +ℤ pos j)) ≡ sum w (different zs)
    below-different z n inside =
        below-cong n (λ j. at-different (z +ℤ pos j))
        ∙ below-sum n (λ j x. bit (eq_z (z +ℤ pos j) x) * w x) (different zs)
        ∙ sum-cong _ w (different zs) (λ x m. let h = inside x (different-in zs m) in below-times n (w x) (λ j. bit (eq_z (z +ℤ pos j) x)) ∙ ap (λ k. k * w x) (one_place z x n h.0 h.1) ∙ omega arith)
