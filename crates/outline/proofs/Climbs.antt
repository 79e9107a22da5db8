-- Laws of numbers in strictly rising order: one is put first, equal ones are dropped two by two, a list is cut, and a list is determined by its
-- numbers.
use Prim.Native.Nat.{ℕ, zero, suc, ◌<◌, ◌≤◌}
use native.Mathlib.Omega.{arith}
use mathlib.Core.Path.{◌≡◌, refl, sym, ap₂, ◌∙◌}
use mathlib.Core.Bool.{Bool, true, ◌&&◌}
use mathlib.Core.List.Memᴰ.{append_left}
use mathlib.Core.List.Memᴰ.{append_right}
use mathlib.Core.List.Memᴰ.{head}
use mathlib.Core.List.Memᴰ.{tail}
use mathlib.Core.List.{List, [], ◌∷◌, ◌++◌, Memᴰ as In}
use lib.ListN.{length, get_or, take}
use lib.Dec.{eqb, ltb}
use borrow.Author.Tests.{ltb-true, lt-ltb, le-ltb, eqb-true, eq-eqb, ne_eqb}
use Rattle.plane.specs.Lists.{odd}
use Rattle.plane.specs.Sorted.{sorted}
use Rattle.plane.specs.Swaps.{off_pairs}
use Rattle.plane.proofs.Bools.{clash, and_parts, and-make, xor-false, false-xor}
use Rattle.plane.proofs.Sums.{all-last-added}
use Rattle.plane.proofs.Parity.{odd-none-of, odd-cons, odd-rest, odd-none, odd-find}
use Rattle.plane.proofs.Places.{in-at}
use Rattle.plane.proofs.Sorted.{least_first, sorted-parity, sorted-twice}
use Rattle.plane.proofs.Pairs.{off-odd, off-ascends}
use Rattle.outline.specs.Inner.{climbs, climbs_after, OddOnes}

-- ---- The first number

-- numbers that climb after k are above it
climbs-above : {j : ℕ} (k : ℕ) {ks : List ℕ} → climbs_after k ks ≡ true → In j ks → k < j
unfolding climbs_after
climbs-above k {ks = []} e m = elim m [ ]
climbs-above k {ks = i ∷ ks} e (head d) = omega (arith, ltb-true k i (and_parts (ltb k i) (climbs_after i ks) e).0)
climbs-above k {ks = i ∷ ks} e (tail m) = let h = and_parts (ltb k i) (climbs_after i ks) e in omega (arith, ltb-true k i h.0, climbs-above i h.1 m)

-- and climb
climbs-rest : (k : ℕ) (ks : List ℕ) → climbs_after k ks ≡ true → climbs ks ≡ true
unfolding climbs climbs_after
climbs-rest k [] e = refl
climbs-rest k (j ∷ ks) e = (and_parts (ltb k j) (climbs_after j ks) e).1

-- the first number of a list that climbs is the least
climbs-least : (k : ℕ) {j : ℕ} {ks : List ℕ} → climbs (k ∷ ks) ≡ true → In j (k ∷ ks) → k ≤ j
unfolding climbs
climbs-least k e (head d) = omega arith
climbs-least k e (tail m) = omega (arith, climbs-above k e m)

-- a number of a list that climbs stands an odd number of times, namely once
pub climbs-odd : {j : ℕ} {ks : List ℕ} → climbs ks ≡ true → In j ks → odd (eqb j) ks ≡ true
unfolding climbs
climbs-odd {ks = []} e m = elim m [ ]
climbs-odd {j} {ks = k ∷ ks} e (head d) = odd-cons (eqb j) k ks ∙ rw (eq-eqb j k d, odd-none (eqb j) ks (λ i m. ne_eqb j i (λ g. omega (arith, climbs-above k e m))), xor-false)
climbs-odd {j} {ks = k ∷ ks} e (tail m) = odd-cons (eqb j) k ks ∙ rw (ne_eqb j k (λ g. omega (arith, climbs-above k e m)), climbs-odd (climbs-rest k ks e) m, false-xor)

-- ---- A number put first

-- numbers that climb do so after one below all of them
climbs-front : (k : ℕ) (ks : List ℕ) → climbs ks ≡ true → ((j : ℕ) → In j ks → ltb k j ≡ true) → climbs (k ∷ ks) ≡ true
unfolding climbs climbs_after
climbs-front k [] e low = refl
climbs-front k (j ∷ ks) e low = and-make (ltb k j) (climbs_after j ks) (low j (head refl)) e

-- so numbers in order without equal neighbours two by two are those that stand an odd number of times
pub off-odd-ones : (l : List ℕ) → OddOnes l (off_pairs eqb (sorted l))
unfolding climbs
off-odd-ones l = record {
  climbing = off-ascends eqb eqb-true least_first (λ k. eq-eqb k k refl) (λ ks. climbs ks ≡ true) refl climbs-front (sorted l) (sorted-twice least_first l);
  parity = λ f. off-odd eqb eqb-true f (sorted l) ∙ sorted-parity least_first f l;
}

-- ---- A number put last

-- numbers that climb do so before one above all of them
pub climbs-push : (ks : List ℕ) (k : ℕ) → climbs ks ≡ true → ((j : ℕ) → In j ks → j < k) → climbs (ks ++ (k ∷ [])) ≡ true
unfolding climbs climbs_after
climbs-push [] k e high = climbs-front k [] refl (λ j m. elim m [ ])
climbs-push (i ∷ ks) k e high = climbs-front i (ks ++ (k ∷ [])) (climbs-push ks k (climbs-rest i ks e) (λ j m. high j (tail m))) (λ j m. lt-ltb i j (all-last-added (λ b. i < b) ks k (λ b n. climbs-above i e n) (high i (head refl)) j m))

-- before the last of numbers that climb they climb, and are below it
pub climbs-before : (ks : List ℕ) (k : ℕ) → climbs (ks ++ (k ∷ [])) ≡ true → (climbs ks ≡ true) × ((j : ℕ) → In j ks → j < k)
unfolding climbs climbs_after
climbs-before [] k e = (refl, λ j m. elim m [ ])
climbs-before (i ∷ ks) k e =
    let h = climbs-before ks k (climbs-rest i (ks ++ (k ∷ [])) e) in
    let first : i < k = climbs-above i e (append_right ks (head refl)) in
    (climbs-front i ks h.0 (λ j m. lt-ltb i j (climbs-above i e (append_left (k ∷ []) m))), λ j. go first (h.1 j))
  where
    go : {j : ℕ} → i < k → (In j ks → j < k) → In j (i ∷ ks) → j < k
    go l h (head d) = omega arith
    go l h (tail m) = h m

-- ---- A list cut

-- the number at a later place is above the first
pub climbs-first : (ks : List ℕ) (i : ℕ) → climbs ks ≡ true → suc i < length ks → get_or ks 0 0 < get_or ks (suc i) 0
unfolding climbs
climbs-first [] i e l = absurd (omega arith)
climbs-first (k ∷ ks) i e l = climbs-above k e (in-at ks i 0 (omega arith))

-- the numbers before place i are those below the number at it
pub climbs-cut : (f : ℕ → Bool) (ks : List ℕ) (i : ℕ) → climbs ks ≡ true → i < length ks → odd f (take i ks) ≡ odd (λ k. ltb k (get_or ks i 0) && f k) ks
unfolding climbs
climbs-cut f [] i e l = absurd (omega arith)
climbs-cut f (k ∷ ks) zero e l = odd-none-of f ∙ sym (odd-none _ (k ∷ ks) (λ j m. rw (le-ltb j k (climbs-least k e m))))
climbs-cut f (k ∷ ks) (suc i) e l =
    let h = lt-ltb k (get_or ks i 0) (climbs-above k e (in-at ks i 0 (omega arith))) in
    odd-cons f k (take i ks) ∙ rw (climbs-cut f ks i (climbs-rest k ks e) (omega arith)) (sym (odd-cons _ k ks ∙ rw h))

-- ---- A list determined by its numbers

-- the first number is at most every number that stands an odd number of times
climbs-below : (k : ℕ) (ks : List ℕ) → climbs (k ∷ ks) ≡ true → (j : ℕ) → odd (eqb j) (k ∷ ks) ≡ true → k ≤ j
climbs-below k ks e j d = let r = odd-find (eqb j) (k ∷ ks) d in omega (arith, climbs-least k e r.1, eqb-true j r.0 r.2)

-- a list that climbs is determined by the parity of each number
pub climbs-unique : (ks js : List ℕ) → climbs ks ≡ true → climbs js ≡ true → ((k : ℕ) → odd (eqb k) ks ≡ odd (eqb k) js) → ks ≡ js
unfolding climbs
climbs-unique [] [] e d h = refl
climbs-unique [] (j ∷ js) e d h = clash (climbs-odd d (head refl)) (sym (h j) ∙ odd-none-of (eqb j))
climbs-unique (k ∷ ks) [] e d h = clash (climbs-odd e (head refl)) (h k ∙ odd-none-of (eqb k))
climbs-unique (k ∷ ks) (j ∷ js) e d h =
    let low = climbs-below k ks e j (h j ∙ climbs-odd d (head refl)) in
    let high = climbs-below j js d k (sym (h k) ∙ climbs-odd e (head refl)) in
    let same : k ≡ j = omega arith in
    ap₂ ◌∷◌ same (climbs-unique ks js (climbs-rest k ks e) (climbs-rest j js d) (λ i. odd-rest (eqb i) k ks js (rw (← same) at (h i))))
