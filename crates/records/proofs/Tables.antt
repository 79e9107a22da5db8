-- Rules of a table, proved at all of its entries: by one test that is computed, or entry by entry.
use mathlib.Core.Path.{◌≡◌}
use mathlib.Core.Bool.{Bool, true, ◌&&◌}
use mathlib.Core.List.{List, [], ◌∷◌}
use Prim.Native.Nat.{ℕ, zero, suc, ◌+◌, ◌<◌}
use native.Mathlib.Omega.{arith}
use native.Mathlib.Decide.{ℕ_discrete}
use lib.ListN.{length, get_or}
use Rattle.plane.proofs.Bools.{and_parts}

-- a test passes at each entry and its place, counted from i
unfoldable pub every : (ℕ → ℕ → Bool) → ℕ → List ℕ → Bool
every f i [] = true
every f i (x ∷ xs) = f i x && every f (suc i) xs

every-from : (f : ℕ → ℕ → Bool) (xs : List ℕ) (i : ℕ) → every f i xs ≡ true → (k : ℕ) → k < length xs → f (i + k) (get_or xs k 0) ≡ true
unfolding every
every-from f [] i t k h = absurd (omega arith)
every-from f (x ∷ xs) i t zero h = let e : i + 0 ≡ i = omega arith in rw e (and_parts (f i x) (every f (suc i) xs) t).0
every-from f (x ∷ xs) i t (suc k) h =
    let e : i + suc k ≡ suc i + k = omega arith in
    rw e (every-from f xs (suc i) (and_parts (f i x) (every f (suc i) xs) t).1 k (omega arith))

pub every-at : (f : ℕ → ℕ → Bool) (xs : List ℕ) → every f 0 xs ≡ true → (k : ℕ) → k < length xs → f k (get_or xs k 0) ≡ true
every-at f xs t k h = let e : 0 + k ≡ k = omega arith in rw e at (every-from f xs 0 t k h)

-- a fact at each number below n, from n - 1 down
abbrev pub All : (ℕ → Type 0) → ℕ → Type 0
All P zero = Unit {0}
All P (suc n) = P n × All P n

pub all-at : (P : ℕ → Type 0) (n : ℕ) → All P n → (k : ℕ) → k < n → P k
all-at P zero a k h = absurd (omega arith)
all-at P (suc n) a k h = go (ℕ_discrete k n) (λ g. all-at P n a.1 k g)
  where
    go : Dec (k ≡ n) → (k < n → P k) → P k
    go (yes e) ih = rw e a.0
    go (no d) ih = ih (omega arith)
