-- The laws of numbers in bytes: a number written is read back, and the bytes of a number read are those that were read. One proof for
-- every count of bytes.
use Prim.Native.Nat.{ℕ, zero, suc, ◌+◌, ◌-◌, ◌*◌, ◌/◌, ◌%◌, ◌^◌, ◌<◌, ◌≤◌}
use native.Mathlib.Nat.{pow-suc, pow-succ', mod-eq_of_lt, mod-one, add-mul-div_right, add-mul-mod_self_right, mul_assoc, mul_comm, add_comm, add-zero, zero-add, suc-add, add-mul, div-add-mod', div-div-eq-div-mul}
use native.Mathlib.Omega.{arith}
use mathlib.Core.Path.{◌≡◌, refl, sym, ap, ap₂, ◌∙◌}
use mathlib.Core.Bool.{Bool, true, false, cond}
use mathlib.Core.List.{List, [], ◌∷◌, ◌++◌}
use lib.ListN.{length, take, drop, length-append, get_or-append}
use lib.Seq.{drop-cons, length-take-le, get_or_at, get_or-drop, append_snoc}
use lib.IntN.{ℤ, pos, negsuc, ◌-ℤ◌}
use lib.Signed.{mag}
use lib.Pow.{pow-add}
use lib.Arith.{digits_div, digits_lt, mod-mul}
use lib.Dec.{ltb}
use borrow.Author.Tests.{lt-ltb, le-ltb, ltb-true, ltb-false}
use Rattle.plane.specs.Lists.{put_at}
use Rattle.plane.proofs.AtPlace.{put-with-room, pasted-same}
use Rattle.bigendian.specs.Numbers.{byte_at, number_at, bytes_of, signed, bits, Bytes}

-- ---- Powers of 256

pos-256 : (k : ℕ) → 0 < 256 ^ k
pos-256 zero = omega arith
pos-256 (suc k) = let h = pos-256 k in rw (pow-suc 256 k) (omega arith)

-- ---- The bytes of a number

pub length-bytes : (k n : ℕ) → length (bytes_of k n) ≡ k
unfolding bytes_of
length-bytes zero n = refl
length-bytes (suc k) n = ap suc (length-bytes k n)

-- what stands above the k bytes does not matter
bytes-above : (k a m : ℕ) → bytes_of k (a * 256 ^ k + m) ≡ bytes_of k m
unfolding bytes_of
bytes-above zero a m = refl
bytes-above (suc k) a m =
    let p = 256 ^ k in
    let e : a * 256 ^ suc k + m ≡ (a * 256) * p + m = rw (pow-succ' 256 k, mul_assoc) in
    let h : (a * 256 ^ suc k + m) / p % 256 ≡ m / p % 256 = rw (e, add_comm ((a * 256) * p) m, add-mul-div_right m (a * 256) (pos-256 k)) (add-mul-mod_self_right (m / p) a 256) in
    ap₂ ◌∷◌ h (ap (bytes_of k) e ∙ bytes-above k (a * 256) m)

-- ---- Written and read

-- the k bytes of n, where they stand after p, are n's rest by 256^k
number-there : (k n : ℕ) (p rest : List ℕ) (at : ℕ) → length p ≡ at → number_at k at (p ++ (bytes_of k n ++ rest)) ≡ n % 256 ^ k
unfolding number_at bytes_of
number-there zero n p rest at e = sym (mod-one n)
number-there (suc k) n p rest at e =
    let b : ℕ = n / 256 ^ k % 256 in
    let next = rw (append_snoc p b (bytes_of k n ++ rest)) at (number-there k n (p ++ (b ∷ [])) rest (suc at) (omega (arith, length-append p (b ∷ [])))) in
    rw (get_or_at p b (bytes_of k n ++ rest) 0 at e, next, pow-succ' 256 k) (sym (mod-mul n (omega arith) (pos-256 k)))

-- a number of k bytes is below 256^k
pub number-below : (k at : ℕ) (s : List ℕ) → Bytes s → number_at k at s < 256 ^ k
unfolding number_at
number-below zero at s h = omega arith
number-below (suc k) at s h = rw (pow-succ' 256 k) (digits_lt (h.below at) (number-below k (suc at) s h))

-- in the bytes from a place on
pub number-drop : (k m at : ℕ) (s : List ℕ) → number_at k at (drop m s) ≡ number_at k (m + at) s
unfolding number_at
number-drop zero m at s = refl
number-drop (suc k) m at s =
    let e : m + suc at ≡ suc (m + at) = omega arith in
    ap₂ (λ (b n : ℕ). b * 256 ^ k + n) (get_or-drop m s at 0) (number-drop k m (suc at) s ∙ ap (λ (i : ℕ). number_at k i s) e)

-- bytes after it do not matter
pub number_append : (k at : ℕ) (s more : List ℕ) → at + k ≤ length s → number_at k at (s ++ more) ≡ number_at k at s
unfolding number_at
number_append zero at s more h = refl
number_append (suc k) at s more h = ap₂ (λ (b n : ℕ). b * 256 ^ k + n) (get_or-append s more 0 at (omega arith)) (number_append k (suc at) s more (omega arith))

-- a number written is read back
pub read-written : (k n at : ℕ) (s : List ℕ) → n < 256 ^ k → at + k ≤ length s → number_at k at (put_at s at (bytes_of k n)) ≡ n
read-written k n at s small room =
    rw (put-with-room s at (bytes_of k n) (rw (length-bytes k n) room)) (number-there k n (take at s) _ at (length-take-le at s (omega arith)) ∙ mod-eq_of_lt small)

-- the bytes of a number read are those that were read
bytes_read : (k at : ℕ) (s : List ℕ) → Bytes s → at + k ≤ length s → bytes_of k (number_at k at s) ≡ take k (drop at s)
unfolding number_at bytes_of
bytes_read zero at s h room = refl
bytes_read (suc k) at s h room =
    let m : ℕ = number_at k (suc at) s in
    let d : (byte_at s at * 256 ^ k + m) / 256 ^ k ≡ byte_at s at = digits_div (byte_at s at) (number-below k (suc at) s h) in
    rw (drop-cons s at 0 (omega arith)) (ap₂ ◌∷◌ (rw d (mod-eq_of_lt (h.below at))) (bytes-above k (byte_at s at) m ∙ bytes_read k (suc at) s h (omega arith)))

-- so a number read and written again changes nothing
pub written_read : (k at : ℕ) (s : List ℕ) → Bytes s → at + k ≤ length s → put_at s at (bytes_of k (number_at k at s)) ≡ s
written_read k at s h room = put-with-room s at (bytes_of k (number_at k at s)) (rw (length-bytes k (number_at k at s)) room) ∙ rw (bytes_read k at s h room) (pasted-same s at k room)

-- ---- In two parts, the higher one first

-- the number of j + k bytes
pub number-parts : (j k at : ℕ) (s : List ℕ) → number_at (j + k) at s ≡ number_at j at s * 256 ^ k + number_at k (at + j) s
unfolding number_at
number-parts zero k at s = rw (zero-add k, add-zero at) (omega arith)
number-parts (suc j) k at s =
    let b : ℕ = byte_at s at in
    let m : ℕ = number_at j (suc at) s in
    let e : b * 256 ^ (j + k) ≡ b * 256 ^ j * 256 ^ k = rw (pow-add 256 j k, mul_assoc) in
    let f : (b * 256 ^ j + m) * 256 ^ k ≡ b * 256 ^ j * 256 ^ k + m * 256 ^ k = add-mul (b * 256 ^ j) m (256 ^ k) in
    let i : suc at + j ≡ at + suc j = omega arith in
    rw (suc-add j k, f, e, number-parts j k (suc at) s, i) (omega arith)

-- the bytes of a number
pub bytes-parts : (j k n : ℕ) → bytes_of (j + k) n ≡ bytes_of j (n / 256 ^ k) ++ bytes_of k n
unfolding bytes_of
bytes-parts zero k n = rw (zero-add k)
bytes-parts (suc j) k n =
    let e : n / 256 ^ (j + k) ≡ n / 256 ^ k / 256 ^ j = rw (pow-add 256 j k, mul_comm (256 ^ j) (256 ^ k)) (sym (div-div-eq-div-mul n (256 ^ k) (256 ^ j))) in
    rw (suc-add j k, e, bytes-parts j k n)

-- the k lowest bytes of a number are those of its rest by 256^k
pub bytes_rest : (k n : ℕ) → bytes_of k (n % 256 ^ k) ≡ bytes_of k n
bytes_rest k n = sym (bytes-above k (n / 256 ^ k) (n % 256 ^ k)) ∙ ap (bytes_of k) (div-add-mod' n (256 ^ k))

-- ---- The sign

-- what stands for a number is below the whole
pub bits_below : (half : ℕ) (z : ℤ) → mag z < half → bits half z < 2 * half
unfolding bits
bits_below half (pos n) h = omega arith
bits_below half (negsuc n) h = omega arith

-- a number less by a greater one
less : (n m : ℕ) → n < m → pos n -ℤ pos m ≡ negsuc (m - suc n)
less n zero h = absurd (omega arith)
less n (suc m) h = rw (lt-ltb n (suc m) h)

-- a number is what its bits stand for
pub signed-bits : (half : ℕ) (z : ℤ) → mag z < half → signed half (bits half z) ≡ z
unfolding signed bits
signed-bits half (pos n) h = rw (lt-ltb n half h)
signed-bits half (negsuc n) h = rw (le-ltb (2 * half - suc n) half (omega arith)) (less (2 * half - suc n) (2 * half) (omega arith) ∙ ap negsuc (omega arith))

module _ (half n : ℕ) (h : n < 2 * half) where
  pub in_two : signed half n ≡ cond (ltb n half) (pos n) (negsuc (2 * half - suc n))
  unfolding signed
  in_two = rw (less n (2 * half) h)

  -- the bits of what n stands for are n
  pub bits-signed : bits half (signed half n) ≡ n
  unfolding bits
  bits-signed = rw in_two (go (ltb n half) refl)
    where
      go : (t : Bool) → ltb n half ≡ t → bits half (cond t (pos n) (negsuc (2 * half - suc n))) ≡ n
      go true e = refl
      go false e = omega arith

  -- it fits
  pub signed-small : mag (signed half n) < half
  signed-small = rw in_two (go (ltb n half) refl)
    where
      go : (t : Bool) → ltb n half ≡ t → mag (cond t (pos n) (negsuc (2 * half - suc n))) < half
      go true e = ltb-true n half e
      go false e = let l = ltb-false n half e in omega arith
