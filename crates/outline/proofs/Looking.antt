-- What the library's searches and ranges say, in the words of the checks: the first item that offends, and a number in the range.
use Prim.Native.Nat.{ℕ}
use native.Mathlib.Omega.{arith}
use mathlib.Core.Path.{◌≡◌, refl, sym, ◌∙◌}
use mathlib.Core.Bool.{Bool, true, false, cond}
use mathlib.Core.List.{List, ◌∷◌}
use lib.ListN.{length, get_or}
use lib.IntN.{ℤ}
use lib.Signed.{le_z, lt_z}
use lib.Dec.{ltb}
use Rattle.std.specs.Prelude.{Option, Some, None}
use Rattle.std.specs.List.{position_or_len}
use Rattle.std.specs.Ordering.{int_cmp, partial_le, is_le}
use Rattle.std.specs.declared.cmp.Ordering.TheVariants.{Less, Equal, Greater}
use Rattle.std.specs.declared.ops.RangeInclusive.{RangeInclusive}
use Rattle.std.specs.Range.{range_inclusive_start, range_inclusive_end, range_inclusive_exhausted, range_inclusive_contains}
use Rattle.plane.specs.Words.{low_end, high_end, in_range}
use Rattle.plane.proofs.Order.{lt→, nlt→, →le, →nle}
use Rattle.entry.specs.Checks.{Check, each, Verdict, refused, verdict}
use Rattle.entry.proofs.Search.{position-first}
use Rattle.entry.proofs.Verdicts.{verdict-each}

-- ---- The first item that offends

module _ {A : Type 0} (k : ℕ) (t : A → Bool) (d : A) (l : List A) (rest : List Check) where
  -- what the checks say of it
  abbrev said : ℕ → Verdict
  said p = cond (ltb p (length l)) (refused k p) (verdict rest)

  said-is : verdict (each k (length l) (λ i. t (get_or l i d)) ∷ rest) ≡ said (position_or_len t l)
  said-is = rw (verdict-each, ← position-first t l d (λ i. t (get_or l i d)) (λ i h. refl))

  abbrev found : ℕ → Option ℕ
  found p = cond (ltb p (length l)) (Some p) None

  -- one that is found is refused at its place
  pub found-refused : {i : ℕ} {r : Option ℕ} → r ≡ Some i → r ≡ found (position_or_len t l) → verdict (each k (length l) (λ i. t (get_or l i d)) ∷ rest) ≡ refused k i
  found-refused {i} s e = said-is ∙ go (position_or_len t l) (ltb (position_or_len t l) (length l)) (sym s ∙ e)
    where
      go : (p : ℕ) (b : Bool) → Some i ≡ cond b (Some p) None → cond b (refused k p) (verdict rest) ≡ refused k i
      go p true h = cc
      go p false h = cc

  -- where none is the later checks say all
  pub none-passes : {r : Option ℕ} → r ≡ None → r ≡ found (position_or_len t l) → verdict (each k (length l) (λ i. t (get_or l i d)) ∷ rest) ≡ verdict rest
  none-passes s e = said-is ∙ go (position_or_len t l) (ltb (position_or_len t l) (length l)) (sym s ∙ e)
    where
      go : (p : ℕ) (b : Bool) → None ≡ cond b (Some p) None → cond b (refused k p) (verdict rest) ≡ verdict rest
      go p true h = cc
      go p false h = refl

-- ---- A number in the range

-- as the library compares two numbers
pub compares : (a b : ℤ) → partial_le (λ x y. Some (int_cmp x y)) a b ≡ le_z a b
compares a b = go (lt_z a b) refl (lt_z b a) refl
  where
    go : (s : Bool) → lt_z a b ≡ s → (t : Bool) → lt_z b a ≡ t → is_le (cond s Less (cond t Greater Equal)) ≡ le_z a b
    go true d t e = sym (→le a b (omega (arith, lt→ a b d)))
    go false d true e = sym (→nle a b (omega (arith, lt→ b a e)))
    go false d false e = sym (→le a b (omega (arith, nlt→ b a e)))

-- so its range of document 01's ends has the numbers in range
pub contains-is : (r : RangeInclusive ℤ) (x : ℤ) → range_inclusive_start r ≡ low_end → range_inclusive_end r ≡ high_end → range_inclusive_exhausted r ≡ false → range_inclusive_contains (λ a b. Some (int_cmp a b)) r x ≡ in_range x
unfolding in_range
contains-is r x s e d = rw (s, e, d, compares low_end x, compares x high_end)
