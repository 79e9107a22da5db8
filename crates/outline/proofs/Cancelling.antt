-- Of numbers in order those that stand an odd number of times: one after another comes, and cancels the last that is kept where they are equal.
use Prim.Native.Nat.{ℕ, zero, suc, ◌+◌, ◌<◌, ◌≤◌}
use native.Mathlib.Nat.{add-zero}
use native.Mathlib.Numerals.{add-one}
use native.Mathlib.Omega.{arith}
use mathlib.Core.Path.{◌≡◌, refl, sym, ap, ◌∙◌}
use mathlib.Core.Logic.{◌≢◌}
use mathlib.Core.Bool.{Bool, true, xor}
use mathlib.Core.List.Memᴰ.{append_right}
use mathlib.Core.List.Memᴰ.{head}
use mathlib.Core.List.{List, [], ◌∷◌, ◌++◌, Memᴰ as In}
use lib.ListN.{length, get_or, take, drop, set, length-set}
use lib.Seq.{drop-drop, drop-set-lt, get_or-drop, take-suc, take-suc-set, take-length}
use borrow.Author.Tests.{ltb-false}
use Rattle.plane.specs.Lists.{odd}
use Rattle.plane.specs.Sorted.{sorted}
use Rattle.plane.proofs.Bools.{xor_self, xor_assoc, xor-false}
use Rattle.plane.proofs.Sums.{all-last-added}
use Rattle.plane.proofs.Parity.{odd-last-added}
use Rattle.plane.proofs.Places.{in-at}
use Rattle.plane.proofs.Sorted.{least_first, sorted-first, sorted-parity, sorted-twice}
use Rattle.outline.specs.Inner.{climbs, OddOnes}
use Rattle.outline.proofs.Climbs.{climbs-push, climbs-before}

-- ---- Numbers in order

-- none is below the one before it
abbrev pub Ascends : List ℕ → Type 0
Ascends l = (i : ℕ) → i + 1 < length l → get_or l i 0 ≤ get_or l (i + 1) 0

-- so it is of sorted ones
sorted-ascends : (l : List ℕ) → sorted l ≡ l → Ascends l
sorted-ascends [] s i h = absurd (omega arith)
sorted-ascends (k ∷ l) s zero h = ltb-false (get_or l 0 0) k ((sorted-first least_first k l s).1 (get_or l 0 0) (in-at l 0 0 (omega arith)))
sorted-ascends (k ∷ l) s (suc i) h =
    let e : suc i + 1 ≡ suc (i + 1) = omega arith in
    rw e (sorted-ascends l (sorted-first least_first k l s).0 i (omega arith))

-- ---- One after another

-- of the numbers before place i those kept are the first ones, and from there on all is as it was
pub record Cancels (before : List ℕ) (left i : ℕ) (now : List ℕ) : Type 0 where
  pub same_length : length now ≡ length before
  pub same-past : drop i now ≡ drop i before
  pub ascends : Ascends before
  pub climbing : climbs (take left now) ≡ true
  pub parity : (f : ℕ → Bool) → odd f (take left now) ≡ odd f (take i before)
  pub below : i < length before → (j : ℕ) → In j (take left now) → j ≤ get_or before i 0

-- at first none is kept
pub cancels-none : {before : List ℕ} (old : List ℕ) → before ≡ sorted old → Cancels before 0 0 before
unfolding climbs odd
cancels-none old e = record {
  same_length = refl;
  same-past = refl;
  ascends = rw e (sorted-ascends (sorted old) (sorted-twice least_first old));
  climbing = refl;
  parity = λ f. refl;
  below = λ h j m. elim m [ ];
}

module _ {before now : List ℕ} {left i : ℕ} (c : Cancels before left i now) (more : i < length before) where
  -- the number that comes is as it was
  comes : get_or now i 0 ≡ get_or before i 0
  comes = sym (rw add-zero at (get_or-drop i now 0 0)) ∙ ap (λ l. get_or l 0 0) c.same-past ∙ (rw add-zero at (get_or-drop i before 0 0))

  -- and what comes later too
  later : drop (i + 1) now ≡ drop (i + 1) before
  later = sym (drop-drop 1 i now) ∙ ap (drop 1) c.same-past ∙ drop-drop 1 i before

  -- with it one more is passed
  passed : (f : ℕ → Bool) → odd f (take (i + 1) before) ≡ xor (odd f (take i before)) (f (get_or before i 0))
  passed f = rw (add-one, take-suc before i 0 more) (odd-last-added f (take i before) (get_or before i 0))

  module _ (last : ℕ) (at-last : left ≡ last + 1) (room : left ≤ length now) where
    -- those kept end with the last one
    kept : take left now ≡ take last now ++ (get_or now last 0 ∷ [])
    kept = rw (at-last, add-one) (take-suc now last 0 (omega arith))

    kept-before : (climbs (take last now) ≡ true) × ((j : ℕ) → In j (take last now) → j < get_or now last 0)
    kept-before = climbs-before (take last now) (get_or now last 0) (rw (kept) at c.climbing)

    kept-last : get_or now last 0 ≤ get_or before i 0
    kept-last = c.below more (get_or now last 0) (rw kept (append_right (take last now) (head refl)))

    -- where it is equal to what comes both go
    pub cancels-last : get_or now last 0 ≡ get_or now i 0 → Cancels before last (i + 1) now
    cancels-last e = record {
      same_length = c.same_length;
      same-past = later;
      ascends = c.ascends;
      climbing = kept-before.0;
      parity = λ f. sym (passed f ∙ rw (← c.parity f, kept, odd-last-added f (take last now) (get_or now last 0), ← comes, ← e, xor_assoc, xor_self, xor-false));
      below = λ h j m. omega (arith, kept-before.1 j m, kept-last, c.ascends i h);
    }

    -- where it is not, all kept are below what comes
    pub all-below : get_or now last 0 ≢ get_or now i 0 → (j : ℕ) → In j (take left now) → j < get_or before i 0
    all-below n = all-below-last
      where
        apart : get_or now last 0 < get_or before i 0
        apart = let d : ¬ (get_or now last 0 ≡ get_or before i 0) = λ e. n (e ∙ sym comes) in omega (arith, kept-last)

        all-below-last : (j : ℕ) → In j (take left now) → j < get_or before i 0
        all-below-last = rw kept (all-last-added (λ b. b < get_or before i 0) (take last now) (get_or now last 0) (λ b m. omega (arith, kept-before.1 b m, apart)) apart)

  -- where none is kept all kept are below it too
  pub none-kept : left ≡ 0 → (j : ℕ) → In j (take left now) → j < get_or before i 0
  none-kept e = rw e (λ j m. elim m [ ])

  -- one that is above all kept is kept
  pub cancels-more : left ≤ i → ((j : ℕ) → In j (take left now) → j < get_or before i 0) → Cancels before (left + 1) (i + 1) (set now left (get_or now i 0))
  cancels-more l high =
      let k : ℕ = get_or before i 0 in
      let e : take (left + 1) (set now left (get_or now i 0)) ≡ take left now ++ (k ∷ []) = rw (add-one left, comes) (take-suc-set now left k (omega (arith, c.same_length))) in
      record {
        same_length = length-set now left (get_or now i 0) ∙ c.same_length;
        same-past = drop-set-lt (i + 1) now left (get_or now i 0) (omega arith) ∙ later;
        ascends = c.ascends;
        climbing = rw e (climbs-push (take left now) k c.climbing high);
        parity = λ f. rw (e, passed f, odd-last-added f (take left now) k, c.parity f);
        below = λ h. rw e (all-last-added (λ j. j ≤ get_or before (i + 1) 0) (take left now) k (λ j m. omega (arith, high j m, c.ascends i h)) (c.ascends i h));
      }

-- at last those kept are the odd ones
pub cancels-all : {before now : List ℕ} {left i : ℕ} (old : List ℕ) → before ≡ sorted old → i ≡ length before → Cancels before left i now → OddOnes old (take left now)
cancels-all old s e c = record { climbing = c.climbing; parity = λ f. c.parity f ∙ rw (e, take-length, s) (sorted-parity least_first f old) }
