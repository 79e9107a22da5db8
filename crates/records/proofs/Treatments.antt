-- How a type is treated, by what the code's match knows of it: numbers in a stretch without those that have arms of their own.
use mathlib.Core.Path.{◌≡◌, refl, sym, ap, ◌∙◌}
use Prim.Native.Nat.{ℕ, zero, suc, ◌+◌, ◌≤◌, ◌<◌}
use native.Mathlib.Omega.{arith}
use native.Mathlib.Decide.{ℕ_discrete}
use mathlib.Core.Logic.{◌≢◌, ◌⊎◌, inl, inr}
use mathlib.Core.Bool.{Bool, true, false, cond, ◌&&◌, ◌||◌}
use mathlib.Core.List.{List, [], ◌∷◌}
use lib.ListN.{get_or}
use lib.Dec.{eqb, leb}
use borrow.Author.Tests.{eqb-true, ne_eqb, le-leb, lt-leb}
use Rattle.std.proofs.lemmas.Bool.{cases_lt}
use Rattle.plane.specs.Lists.{any}
use Rattle.plane.proofs.Bools.{and_parts}
use Rattle.records.specs.declared.Treatment.{Treatment}
use Rattle.records.specs.declared.Treatment.TheVariants.{End, Name, Leave, Refer, Layer, Vertices, Unknown, Skip}
use Rattle.records.specs.Records.{known, treatment_of}
use Rattle.records.proofs.Forms.{unknown-beyond}

-- ---- Treatments as numbers, which a test can compare

unfoldable pub tag : Treatment → ℕ
tag End = 0
tag Name = 1
tag Leave = 2
tag Refer = 3
tag Layer = 4
tag Vertices = 5
tag Unknown = 6
tag Skip = 7

tagged : ℕ → Treatment
tagged n = get_or (End ∷ Name ∷ Leave ∷ Refer ∷ Layer ∷ Vertices ∷ Unknown ∷ []) n Skip

tagged-tag : (t : Treatment) → tagged (tag t) ≡ t
unfolding tag tagged
tagged-tag End = refl
tagged-tag Name = refl
tagged-tag Leave = refl
tagged-tag Refer = refl
tagged-tag Layer = refl
tagged-tag Vertices = refl
tagged-tag Unknown = refl
tagged-tag Skip = refl

-- ---- Stretches

-- a test passes at n numbers from i on
unfoldable pub through : (ℕ → Bool) → (i n : ℕ) → Bool
through f i zero = true
through f i (suc n) = f i && through f (suc i) n

through-at : (f : ℕ → Bool) (i n : ℕ) → through f i n ≡ true → (k : ℕ) → i ≤ k → k < i + n → f k ≡ true
unfolding through
through-at f i zero e k g h = absurd (omega arith)
through-at f i (suc n) e k g h = go (ℕ_discrete k i) (λ l. through-at f (suc i) n (and_parts (f i) (through f (suc i) n) e).1 k l (omega arith))
  where
    go : Dec (k ≡ i) → (suc i ≤ k → f k ≡ true) → f k ≡ true
    go (yes d) ih = rw d (and_parts (f i) (through f (suc i) n) e).0
    go (no d) ih = ih (omega arith)

-- the types that have arms of their own
abbrev pub single : List ℕ
single = 4 ∷ 6 ∷ 7 ∷ 13 ∷ 16 ∷ 20 ∷ 24 ∷ 53 ∷ []

-- a type is treated so, or has an arm of its own
unfoldable pub treated : Treatment → ℕ → Bool
treated t k = any (eqb k) single || eqb (tag (treatment_of k)) (tag t)

module _ (k : ℕ) (apart : any (eqb k) single ≡ false) where
  -- in a stretch of types that are treated so
  pub within : (t : Treatment) (i n : ℕ) → through (treated t) i n ≡ true → i ≤ k → k < i + n → t ≡ treatment_of k
  unfolding treated
  within t i n e g h =
      let f : eqb (tag (treatment_of k)) (tag t) ≡ true = ap (λ b. b || eqb (tag (treatment_of k)) (tag t)) (sym apart) ∙ through-at (treated t) i n e k g h in
      sym (tagged-tag t) ∙ ap tagged (sym (eqb-true (tag (treatment_of k)) (tag t) f)) ∙ tagged-tag (treatment_of k)

-- ---- Types by the order of the arms

module _ (k : ℕ) (end : k ≢ 4) (name : k ≢ 6) (leave : k ≢ 7) where
  -- a path, and a reference of either kind
  pub referring : 9 ≤ k → k ≤ 11 → Refer ≡ treatment_of k
  unfolding treatment_of
  referring g h = rw (ne_eqb k 4 end, ne_eqb k 6 name, ne_eqb k 7 leave, le-leb 9 k g, le-leb k 11 h)

  -- a type that has no arm of its own
  pub other : (9 ≤ k → k ≤ 11 → ⊥) → k ≢ 13 → k ≢ 16 → treatment_of k ≡ cond (known k) Skip Unknown
  unfolding treatment_of
  other apart layer xy = rw (ne_eqb k 4 end, ne_eqb k 6 name, ne_eqb k 7 leave, outside (cases_lt k 9) (cases_lt 11 k), ne_eqb k 13 layer, ne_eqb k 16 xy)
    where
      outside : (k < 9) ⊎ (9 ≤ k) → (11 < k) ⊎ (k ≤ 11) → (leb 9 k && leb k 11) ≡ false
      outside (inl h) b = rw (lt-leb 9 k h)
      outside (inr g) (inl h) = rw (le-leb 9 k g, lt-leb k 11 h)
      outside (inr g) (inr h) = absurd (apart g h)

-- beyond the table
pub beyond : (k : ℕ) → 60 ≤ k → Unknown ≡ treatment_of k
beyond k h = sym (other k (λ e. omega arith) (λ e. omega arith) (λ e. omega arith) (λ g l. omega arith) (λ e. omega arith) (λ e. omega arith) ∙ ap (λ (b : Bool). cond b Skip Unknown) (unknown-beyond k h))
