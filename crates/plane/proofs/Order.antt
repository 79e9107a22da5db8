-- The order of ℤ for `omega`: z is `up z` - `dn z`, so that a test of order is a linear fact on natural numbers.
-- `omega order` reads `le_z a b ≡ true`, `lt_z a b ≡ false`, `eq_z a b ≡ true` and the like, and proves them.
use mathlib.Core.Path.{◌≡◌, refl, sym, ap, ◌∙◌}
use mathlib.Core.Logic.{◌≢◌}
use Prim.Native.Nat.{ℕ, zero, suc, ◌+◌, ◌≤◌, ◌<◌, ◌^◌}
use native.Mathlib.Omega.{arith}
use mathlib.Core.Bool.{true, false, true≢false, false≢true}
use lib.Dec.{ltb}
use borrow.Author.Tests.{ltb-true, ltb-false, leb-true, leb-false, eqb-true, eq-eqb}
use lib.IntN.{ℤ, pos, negsuc, nat_abs, sub_ℕ, pred_ℤ, ◌+ℤ◌, ◌-ℤ◌, +ℤ_comm, -ℤ-+ℤ_cancel}
use lib.Signed.{mag, le_z, lt_z}
use Rattle.plane.specs.Words.{eq_z, low_end, high_end, in_range}
use Rattle.plane.proofs.Bools.{by, by-no, and_parts, cond-case}

-- ---- A number as a difference

-- how far above 0, and how far below
pub up : ℤ → ℕ
up (pos n) = n
up (negsuc n) = 0

pub dn : ℤ → ℕ
dn (pos n) = 0
dn (negsuc n) = suc n

-- ---- From the test to the fact

pub le→ : (a b : ℤ) → le_z a b ≡ true → up a + dn b ≤ up b + dn a
unfolding up dn
le→ (pos a) (pos b) e = omega (arith, leb-true a b e)
le→ (pos a) (negsuc b) e = absurd (false≢true e)
le→ (negsuc a) (pos b) e = omega arith
le→ (negsuc a) (negsuc b) e = omega (arith, leb-true b a e)

pub nle→ : (a b : ℤ) → le_z a b ≡ false → up b + dn a < up a + dn b
unfolding up dn
nle→ (pos a) (pos b) e = omega (arith, leb-false a b e)
nle→ (pos a) (negsuc b) e = omega arith
nle→ (negsuc a) (pos b) e = absurd (true≢false e)
nle→ (negsuc a) (negsuc b) e = omega (arith, leb-false b a e)

pub lt→ : (a b : ℤ) → lt_z a b ≡ true → up a + dn b < up b + dn a
unfolding up dn
lt→ (pos a) (pos b) e = omega (arith, ltb-true a b e)
lt→ (pos a) (negsuc b) e = absurd (false≢true e)
lt→ (negsuc a) (pos b) e = omega arith
lt→ (negsuc a) (negsuc b) e = omega (arith, ltb-true b a e)

pub nlt→ : (a b : ℤ) → lt_z a b ≡ false → up b + dn a ≤ up a + dn b
unfolding up dn
nlt→ (pos a) (pos b) e = omega (arith, ltb-false a b e)
nlt→ (pos a) (negsuc b) e = omega arith
nlt→ (negsuc a) (pos b) e = absurd (true≢false e)
nlt→ (negsuc a) (negsuc b) e = omega (arith, ltb-false b a e)

-- ---- From the fact to the test

pub →le : (a b : ℤ) → up a + dn b ≤ up b + dn a → le_z a b ≡ true
→le a b h = by (le_z a b) (λ e. let k = nle→ a b e in omega arith)

pub →nle : (a b : ℤ) → up b + dn a < up a + dn b → le_z a b ≡ false
→nle a b h = by-no (le_z a b) (λ e. let k = le→ a b e in omega arith)

pub →lt : (a b : ℤ) → up a + dn b < up b + dn a → lt_z a b ≡ true
→lt a b h = by (lt_z a b) (λ e. let k = nlt→ a b e in omega arith)

pub →nlt : (a b : ℤ) → up b + dn a ≤ up a + dn b → lt_z a b ≡ false
→nlt a b h = by-no (lt_z a b) (λ e. let k = lt→ a b e in omega arith)

-- ---- Equality

-- numbers that pass the test are equal
pub eq_z-is : (a b : ℤ) → eq_z a b ≡ true → a ≡ b
unfolding eq_z
eq_z-is (pos a) (pos b) e = ap pos (eqb-true a b e)
eq_z-is (pos a) (negsuc b) e = absurd (false≢true e)
eq_z-is (negsuc a) (pos b) e = absurd (false≢true e)
eq_z-is (negsuc a) (negsuc b) e = ap negsuc (eqb-true a b e)

-- a number passes it with itself
pub eq_z-refl : (a : ℤ) → eq_z a a ≡ true
unfolding eq_z
eq_z-refl (pos a) = eq-eqb a a refl
eq_z-refl (negsuc a) = eq-eqb a a refl

-- two numbers with one difference are equal
pub same-ℤ : (a b : ℤ) → up a + dn b ≡ up b + dn a → a ≡ b
unfolding up dn
same-ℤ (pos a) (pos b) h = ap pos (omega arith)
same-ℤ (pos a) (negsuc b) h = absurd (omega arith)
same-ℤ (negsuc a) (pos b) h = absurd (omega arith)
same-ℤ (negsuc a) (negsuc b) h = ap negsuc (omega arith)

-- equal numbers have one difference
pub path→ : (a b : ℤ) → a ≡ b → up a + dn b ≡ up b + dn a
path→ a b e = rw e

pub eq→ : (a b : ℤ) → eq_z a b ≡ true → up a + dn b ≡ up b + dn a
eq→ a b e = path→ a b (eq_z-is a b e)

pub →eq : (a b : ℤ) → up a + dn b ≡ up b + dn a → eq_z a b ≡ true
→eq a b h = rw (same-ℤ a b h) (eq_z-refl b)

pub neq→ : (a b : ℤ) → eq_z a b ≡ false → up a + dn b ≢ up b + dn a
neq→ a b e h = true≢false (sym (→eq a b h) ∙ e)

pub →neq : (a b : ℤ) → up a + dn b ≢ up b + dn a → eq_z a b ≡ false
→neq a b h = by-no (eq_z a b) (λ e. h (eq→ a b e))

-- ---- What `omega` is handed

pub ruleset order = (arith, le→, nle→, lt→, nlt→, eq→, neq→, path→, →le, →nle, →lt, →nlt, →eq, →neq, same-ℤ)

-- ---- Sums: facts for `omega`'s list, as `omega (order, add-up a b)`

-- a difference of two natural numbers
sub-up : (a b : ℕ) → up (sub_ℕ a b) + b ≡ dn (sub_ℕ a b) + a
unfolding up dn
sub-up a b = cond-case (λ z. up z + b ≡ dn z + a) (ltb a b) (λ e. omega (arith, ltb-true a b e)) (λ e. omega (arith, ltb-false a b e))

-- a sum
pub add-up : (a b : ℤ) → up (a +ℤ b) + (dn a + dn b) ≡ dn (a +ℤ b) + (up a + up b)
unfolding up dn
add-up (pos a) (pos b) = omega arith
add-up (pos a) (negsuc b) = omega (arith, sub-up a (suc b))
add-up (negsuc a) (pos b) = omega (arith, sub-up b (suc a))
add-up (negsuc a) (negsuc b) = omega arith

-- a difference has at most the magnitude of both numbers together
mag-sub : (a b : ℕ) → mag (sub_ℕ a b) ≤ a + b
mag-sub a b = cond-case (λ z. mag z ≤ a + b) (ltb a b) (λ e. omega arith) (λ e. omega arith)

-- a sum at most one more than that
pub mag-add : (a b : ℤ) → mag (a +ℤ b) ≤ mag a + mag b + 1
mag-add (pos a) (pos b) = omega arith
mag-add (pos a) (negsuc b) = omega (arith, mag-sub a (suc b))
mag-add (negsuc a) (pos b) = omega (arith, mag-sub b (suc a))
mag-add (negsuc a) (negsuc b) = omega arith

-- a number that is at least 1 makes a sum greater
pub add-more : (a b : ℤ) → lt_z b (pos 1) ≡ false → lt_z a (a +ℤ b) ≡ true
unfolding up dn
add-more a b e = omega (order, add-up a b)

-- a number and the difference to another give that other
pub far-side : (a b : ℤ) → a +ℤ (b -ℤ a) ≡ b
far-side a b = +ℤ_comm a (b -ℤ a) ∙ -ℤ-+ℤ_cancel b a

-- a side is the difference of its ends
pub side-is : (a b : ℤ) → (a +ℤ b) -ℤ a ≡ b
side-is a b =
    let far = far-side a (a +ℤ b) in
    let s = add-up a ((a +ℤ b) -ℤ a) in
    let t = add-up a b in
    omega order

-- `pos n` is n above 0
pub pos-up : (n : ℕ) → (up (pos n) ≡ n) × (dn (pos n) ≡ 0)
unfolding up dn
pos-up n = (refl, refl)

-- `negsuc n` is n + 1 below 0
pub neg-up : (n : ℕ) → (up (negsuc n) ≡ 0) × (dn (negsuc n) ≡ suc n)
unfolding up dn
neg-up n = (refl, refl)

-- the magnitude of a number that is not negative
pub abs-up : (z : ℤ) → dn z ≤ up z → nat_abs z + dn z ≡ up z
unfolding up dn
abs-up (pos n) h = omega arith
abs-up (negsuc n) h = absurd (omega arith)

-- and of one that is not positive
abs-down : (z : ℤ) → up z ≤ dn z → nat_abs z + up z ≡ dn z
unfolding up dn
abs-down (pos n) h = omega arith
abs-down (negsuc n) h = omega arith

-- the distance to a number that is not lower
pub distance-up : (a b : ℤ) → le_z a b ≡ true → nat_abs (b -ℤ a) + (up a + dn b) ≡ up b + dn a
distance-up a b h =
    let s = add-up a (b -ℤ a) in
    let t = far-side a b in
    let d : dn (b -ℤ a) ≤ up (b -ℤ a) = omega order in
    omega (order, abs-up (b -ℤ a) d)

-- and to one that is not higher
pub distance-down : (a b : ℤ) → le_z b a ≡ true → nat_abs (b -ℤ a) + (up b + dn a) ≡ up a + dn b
distance-down a b h =
    let s = add-up a (b -ℤ a) in
    let t = far-side a b in
    let d : up (b -ℤ a) ≤ dn (b -ℤ a) = omega order in
    omega (order, abs-down (b -ℤ a) d)

-- one less
pub pred-up : (z : ℤ) → up (pred_ℤ z) + dn z + 1 ≡ dn (pred_ℤ z) + up z
unfolding up dn
pred-up (pos zero) = omega arith
pred-up (pos (suc n)) = omega arith
pred-up (negsuc n) = omega arith

-- one more
pub next_up : (z : ℤ) → up (z +ℤ pos 1) + dn z ≡ dn (z +ℤ pos 1) + up z + 1
next_up z = omega (arith, add-up z (pos 1), pos-up 1)

-- ---- The range

-- a number at most n above 0 and at most n below has magnitude at most n
pub mag-most : (z : ℤ) (n : ℕ) → up z ≤ dn z + n → dn z ≤ up z + n → mag z ≤ n
unfolding up dn
mag-most (pos m) n g h = omega arith
mag-most (negsuc m) n g h = omega arith

-- and is that near to 0
pub abs-most : (z : ℤ) (n : ℕ) → up z ≤ dn z + n → dn z ≤ up z + n → nat_abs z ≤ n
unfolding up dn
abs-most (pos m) n g h = omega arith
abs-most (negsuc m) n g h = omega arith

-- a number of 32 bits is less than 2^31 above 0 and at most 2^31 below
pub bits_up : (z : ℤ) → mag z < 2 ^ 31 → (up z < dn z + 2 ^ 31) × (dn z ≤ up z + 2 ^ 31)
unfolding up dn
bits_up (pos n) h = (omega arith, omega arith)
bits_up (negsuc n) h = (omega arith, omega arith)

-- and such a number is one of 32 bits
pub up-bits : (z : ℤ) → up z < dn z + 2 ^ 31 → dn z ≤ up z + 2 ^ 31 → mag z < 2 ^ 31
unfolding up dn
up-bits (pos n) g h = omega arith
up-bits (negsuc n) g h = omega arith

-- a number in range is at most 10^9 above 0 and at most 10^9 below
pub range-up : (z : ℤ) → in_range z ≡ true → (up z ≤ dn z + 1_000_000_000) × (dn z ≤ up z + 1_000_000_000)
unfolding in_range up dn
range-up z e = let h = and_parts (le_z low_end z) (le_z z high_end) e in (omega order, omega order)

-- so its magnitude is small
pub range-most : (z : ℤ) → in_range z ≡ true → mag z ≤ 1_000_000_000
range-most z e = let h = range-up z e in mag-most z 1_000_000_000 (omega arith) (omega arith)

-- two numbers in range are at most 2·10^9 apart
pub apart-most : (a b : ℤ) → in_range a ≡ true → in_range b ≡ true → mag (b -ℤ a) ≤ 2_000_000_000
apart-most a b e f =
    let g = range-up a e in
    let h = range-up b f in
    let s = add-up a (b -ℤ a) in
    let t = far-side a b in
    mag-most (b -ℤ a) 2_000_000_000 (omega order) (omega order)
