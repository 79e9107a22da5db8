-- A signed number in a local is its bits. What the code asks of the bits it asks of the number.
use Prim.Native.Nat.{ℕ, ◌<◌, ◌≤◌, ◌^◌, ◌-◌, suc}
use native.Mathlib.Omega.{arith}
use mathlib.Core.Path.{◌≡◌, refl}
use mathlib.Core.Bool.{false, true≢false}
use lib.Dec.{T, eqb}
use lib.IntN.{ℤ, pos, negsuc, nat_abs, ◌+ℤ◌}
use lib.Signed.{mag, lt_z, non_neg, nat_abs-le}
use mir.Syntax.{w32, w64}
use mir.Val.{of_z, to_z, Fits, SFits}
use mir.Facts.{to_z-of_z, Fits-below}
use borrow.Author.Tests.{eq-eqb, ne_eqb, eqb-true}
use Rattle.plane.specs.declared.Rect.{Rect}
use Rattle.plane.specs.Words.{eq_z, flat}
use Rattle.plane.proofs.Order.{mag-add}
use Rattle.plane.proofs.Bools.{iff, or_parts}

-- ---- Tests

-- two tests for equal numbers that pass together are equal
eqb-iff : (a b c d : ℕ) → (a ≡ b → c ≡ d) → (c ≡ d → a ≡ b) → eqb a b ≡ eqb c d
eqb-iff a b c d f g = iff (eqb a b) (eqb c d) (λ e. eq-eqb c d (f (eqb-true a b e))) (λ e. eq-eqb a b (g (eqb-true c d e)))

-- equal bits are equal numbers
pub eq-bits : (a b : ℤ) → mag a < 2 ^ 31 → mag b < 2 ^ 31 → eqb (of_z w32 a) (of_z w32 b) ≡ eq_z a b
unfolding eq_z
eq-bits (pos a) (pos b) p q = refl
eq-bits (pos a) (negsuc b) p q = ne_eqb a (2 ^ 32 - suc b) (omega arith)
eq-bits (negsuc a) (pos b) p q = ne_eqb (2 ^ 32 - suc a) b (omega arith)
eq-bits (negsuc a) (negsuc b) p q = eqb-iff (2 ^ 32 - suc a) (2 ^ 32 - suc b) a b (omega arith) (omega arith)

-- the number of a number's bits
pub back : (a : ℤ) → mag a < 2 ^ 31 → to_z w32 (of_z w32 a) ≡ a
back a p = to_z-of_z {w = w32} (record { sfits = p })

-- ---- 64 bits

-- a number that fits 32 bits fits 64
pub widened : (a : ℤ) → mag a < 2 ^ 31 → SFits w64 a
widened a p = record { sfits = omega arith }

-- so does a sum of two
pub sum-widened : (a b : ℤ) → mag a < 2 ^ 31 → mag b < 2 ^ 31 → SFits w64 (a +ℤ b)
sum-widened a b p q = record { sfits = omega (arith, mag-add a b) }

-- the number of a number's 64 bits
pub back-wide : (a : ℤ) → mag a < 2 ^ 63 → to_z w64 (of_z w64 a) ≡ a
back-wide a p = to_z-of_z {w = w64} (record { sfits = p })

-- ---- Sides

-- a number's bits can be cast to 64 bits without a sign, and the result is small
pub record Side (a : ℤ) : Type 0 where
  pub cast : T (non_neg (to_z w32 (of_z w32 a))) × Fits w64 (nat_abs (to_z w32 (of_z w32 a)))
  pub small : nat_abs (to_z w32 (of_z w32 a)) ≤ 2 ^ 31

-- of a number that is at least 1
side : (a : ℤ) → mag a < 2 ^ 31 → lt_z a (pos 1) ≡ false → Side a
side a p e = let s : nat_abs (to_z w32 (of_z w32 a)) ≤ 2 ^ 31 = rw (back a p) (nat_abs-le a p) in record { cast = (rw (back a p) (sign a e), Fits-below tt s); small = s }
  where
    sign : (b : ℤ) → lt_z b (pos 1) ≡ false → T (non_neg b)
    sign (pos n) d = tt
    sign (negsuc n) d = absurd (true≢false d)

-- of the sides of a rectangle that is not flat
pub sides : (r : Rect) → flat r ≡ false → mag r.w < 2 ^ 31 → mag r.h < 2 ^ 31 → Side r.w × Side r.h
unfolding flat
sides r e p q = let s = or_parts (lt_z r.w (pos 1)) (lt_z r.h (pos 1)) e in (side r.w p s.0, side r.h q s.1)
