-- Laws of Booleans: what a conjunction's parts say, exclusive or, and the parity of a number.
use mathlib.Core.Path.{◌≡◌, refl, sym, ◌∙◌}
use mathlib.Core.Logic.{◌⊎◌, inl, inr}
use Prim.Native.Nat.{ℕ, zero, suc, ◌+◌, ◌≤◌}
use native.Mathlib.Omega.{arith}
use mathlib.Core.Bool.{Bool, true, false, not, cond, ◌&&◌, ◌||◌, xor, true≢false, false≢true, and-false}
use Rattle.plane.specs.Lists.{bit}

-- ---- Tests as facts

-- a test that is true is not false
pub clash {ℓ} : {X : Type ℓ} {b : Bool} → b ≡ true → b ≡ false → X
clash e f = absurd (true≢false (sym e ∙ f))

-- a test whose other answer is absurd
pub by : (b : Bool) → (b ≡ false → ⊥) → b ≡ true
by true f = refl
by false f = absurd (f refl)

-- and the other way round
pub by-no : (b : Bool) → (b ≡ true → ⊥) → b ≡ false
by-no true f = absurd (f refl)
by-no false f = refl

-- two tests that pass together are equal
pub iff : (a b : Bool) → (a ≡ true → b ≡ true) → (b ≡ true → a ≡ true) → a ≡ b
iff true b f g = sym (f refl)
iff false true f g = g refl
iff false false f g = refl

-- both tests of a conjunction pass
pub and_parts : (a b : Bool) → (a && b) ≡ true → (a ≡ true) × (b ≡ true)
and_parts true b e = (refl, e)
and_parts false b e = absurd (false≢true e)

-- two tests that pass, as a conjunction
pub and-make : (a b : Bool) → a ≡ true → b ≡ true → (a && b) ≡ true
and-make a b e f = rw (e, f)

-- all four tests of two conjunctions pass
pub and-four : (a b c d : Bool) → ((a && b) && (c && d)) ≡ true → (a ≡ true) × (b ≡ true) × (c ≡ true) × (d ≡ true)
and-four a b c d e =
    let h = and_parts (a && b) (c && d) e in
    let l = and_parts a b h.0 in
    let r = and_parts c d h.1 in
    (l.0, l.1, r.0, r.1)

-- two conjunctions, paired otherwise
pub and-swap : (a b c d : Bool) → ((a && b) && (c && d)) ≡ ((a && c) && (b && d))
and-swap true b true d = refl
and-swap true b false d = and-false b
and-swap false b c d = refl

-- neither of two tests passes
pub or_parts : (a b : Bool) → (a || b) ≡ false → (a ≡ false) × (b ≡ false)
or_parts true b e = absurd (true≢false e)
or_parts false b e = (refl, e)

-- of two tests one passes
pub or-one : (a b : Bool) → (a || b) ≡ true → (a ≡ true) ⊎ (b ≡ true)
or-one true b e = inl refl
or-one false b e = inr e

-- the second of two tests passes
pub or_right : (a b : Bool) → b ≡ true → (a || b) ≡ true
or_right true b e = refl
or_right false b e = e

-- what holds of both branches
pub cond-case : {X : Type 0} (P : X → Type 0) (c : Bool) {x y : X} → (c ≡ true → P x) → (c ≡ false → P y) → P (cond c x y)
cond-case P true f g = f refl
cond-case P false f g = g refl

-- the branch taken
pub cond-true : {X : Type 0} (c : Bool) (x y : X) → c ≡ true → cond c x y ≡ x
cond-true c x y e = rw e

-- the other one
pub cond-false : {X : Type 0} (c : Bool) (x y : X) → c ≡ false → cond c x y ≡ y
cond-false c x y e = rw e

-- ---- Exclusive or

-- a test with itself
pub xor_self : (b : Bool) → xor b b ≡ false
unfolding xor
xor_self true = refl
xor_self false = refl

-- a test with false
pub xor-false : (b : Bool) → xor b false ≡ b
unfolding xor
xor-false true = refl
xor-false false = refl

-- false with a test
pub false-xor : (b : Bool) → xor false b ≡ b
unfolding xor
false-xor true = refl
false-xor false = refl

-- tests that differ by nothing are equal
pub xor_same : (a b : Bool) → xor a b ≡ false → a ≡ b
unfolding xor
xor_same true true e = refl
xor_same true false e = absurd (true≢false e)
xor_same false true e = absurd (true≢false e)
xor_same false false e = refl

-- the same test twice
pub xor-back : (a b : Bool) → xor a (xor a b) ≡ b
unfolding xor
xor-back true true = refl
xor-back true false = refl
xor-back false true = refl
xor-back false false = refl

-- in any grouping
pub xor_assoc : (a b c : Bool) → xor (xor a b) c ≡ xor a (xor b c)
unfolding xor
xor_assoc true true true = refl
xor_assoc true true false = refl
xor_assoc true false true = refl
xor_assoc true false false = refl
xor_assoc false true true = refl
xor_assoc false true false = refl
xor_assoc false false true = refl
xor_assoc false false false = refl

-- in any order
pub xor_comm : (a b : Bool) → xor a b ≡ xor b a
unfolding xor
xor_comm true true = refl
xor_comm true false = refl
xor_comm false true = refl
xor_comm false false = refl

-- the first two exchanged
pub xor-left-comm : (a b c : Bool) → xor a (xor b c) ≡ xor b (xor a c)
xor-left-comm a b c = sym (xor_assoc a b c) ∙ rw (xor_comm a b) (xor_assoc b a c)

-- two xors, paired otherwise
pub xor-swap : (a b c d : Bool) → xor (xor a b) (xor c d) ≡ xor (xor a c) (xor b d)
xor-swap a b c d = simp (xor_assoc, xor-left-comm)

-- ---- The parity of a number

-- whether a number is odd
unfoldable pub is_odd : ℕ → Bool
is_odd zero = false
is_odd (suc n) = not (is_odd n)

-- with one more counted or not
pub is_odd-bit : (b : Bool) (m : ℕ) → is_odd (bit b + m) ≡ xor b (is_odd m)
unfolding xor is_odd
is_odd-bit true m = rw (one_more m) (flip (is_odd m))
  where
    one_more : (k : ℕ) → 1 + k ≡ suc k
    one_more k = omega arith

    flip : (b : Bool) → not b ≡ xor true b
    flip true = refl
    flip false = refl
is_odd-bit false m = rw (none_more m) (sym (false-xor (is_odd m)))
  where
    none_more : (k : ℕ) → 0 + k ≡ k
    none_more k = omega arith

-- an even number is twice its half
pub even-half : (n : ℕ) → is_odd n ≡ false → (h : ℕ) × (n ≡ h + h)
unfolding is_odd
even-half zero e = (0, refl)
even-half (suc zero) e = absurd (true≢false e)
even-half (suc (suc n)) e = let r = even-half n (twice (is_odd n) e) in (suc r.0, omega (arith, r.1))
  where
    twice : (b : Bool) → not (not b) ≡ false → b ≡ false
    twice true f = f
    twice false f = f

-- ---- Counting one more

-- a test counts at most one
pub bit-most : (b : Bool) → bit b ≤ 1
bit-most true = omega arith
bit-most false = omega arith

-- a wider test counts no less
pub cond-le : {m n : ℕ} (t u : Bool) → (t ≡ true → u ≡ true) → m ≤ n → cond t (suc m) m ≤ cond u (suc n) n
cond-le true true s h = omega arith
cond-le true false s h = absurd (false≢true (s refl))
cond-le false true s h = omega arith
cond-le false false s h = h

-- a test from its denial
pub denied : (b : Bool) → not b ≡ true → b ≡ false
denied true e = sym e
denied false e = refl

pub granted : (b : Bool) → not b ≡ false → b ≡ true
granted true e = refl
granted false e = sym e
