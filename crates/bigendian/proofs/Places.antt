-- Bytes at a place, numbers in bytes and their sign, as the library reads and makes them, and as bytes are read and stored one by one.
use Rattle.std.proofs.Common.{ℕ, zero, suc, ◌+◌, ◌-◌, ◌*◌, ◌/◌, ◌%◌, ◌^◌, ◌<◌, ◌≤◌, ◌≡◌, refl, sym, ap, ap₂, ◌∙◌, List, ◌∷◌, ◌++◌, length, take, drop, replicate, arith, ℤ, pos, negsuc, to_z, of_z, inl, inr, ◌⊎◌}
use native.Mathlib.Nat.{add-zero, div-one}
use native.Mathlib.Numerals.{add-one}
use mathlib.Core.Bool.{true, false, true≢false}
use mathlib.Core.List.{[]}
use lib.ListN.{set}
use lib.IntN.{◌+ℤ◌, ◌-ℤ◌}
use lib.Signed.{mag, le_z}
use borrow.Author.Tests.{lt-ltb, le-ltb, leb-false}
use Rattle.std.proofs.lemmas.List.{take-append-drop, get_or-drop, get_or_append_left, get_or-append_right, get_or_past, length-take, length-drop}
use Rattle.std.proofs.lemmas.Bool.{cases_lt}
use Rattle.std.proofs.lemmas.Int.{of_z-to_z}
use Rattle.std.specs.Int.{w16, w32, w64, bytes_high_first, from_be_bytes}
use Rattle.plane.specs.Lists.{pasted}
use Rattle.plane.proofs.AtPlace.{stored-pasted, pasted-then}
use Rattle.bigendian.specs.Numbers.{byte_at, number_at, bytes_of, signed, bits}
use Rattle.bigendian.proofs.Laws.{in_two, number-drop, number_append, length-bytes, bytes-parts, bytes_rest}

-- ---- Bytes at a place

-- zeros alone
zeros : (n i : ℕ) → byte_at (replicate n 0) i ≡ 0
zeros zero i = refl
zeros (suc n) zero = refl
zeros (suc n) (suc i) = zeros n i

-- after bytes they do not count
zeros-after : (z : List ℕ) → ((i : ℕ) → byte_at z i ≡ 0) → (k at : ℕ) (s : List ℕ) → number_at k at (s ++ z) ≡ number_at k at s
unfolding number_at
zeros-after z h zero at s = refl
zeros-after z h (suc k) at s = ap₂ (λ (b n : ℕ). b * 256 ^ k + n) (go (cases_lt at (length s))) (zeros-after z h k (suc at) s)
  where
    go : (at < length s) ⊎ (length s ≤ at) → byte_at (s ++ z) at ≡ byte_at s at
    go (inl l) = get_or_append_left s z 0 at l
    go (inr l) = get_or-append_right s z (length s) at 0 refl l ∙ h (at - length s) ∙ sym (get_or_past s at 0 l)

module _ (k at : ℕ) (s : List ℕ) where
  there : number_at k 0 (drop at s) ≡ number_at k at s
  there = number-drop k at 0 s ∙ ap (λ (i : ℕ). number_at k i s) (add-zero at)

  -- the bytes from a place on
  pub front-number : {front : List ℕ} → at + k ≤ length s → front ≡ take k (drop at s) → number_at k 0 front ≡ number_at k at s
  front-number {front} h d =
      let l : length front ≡ k = omega (arith, ap length d, length-take k (drop at s), length-drop at s) in
      sym (number_append k 0 front (drop k (drop at s)) (omega arith)) ∙ ap (number_at k 0) (rw d (take-append-drop k (drop at s))) ∙ there

  -- where they are too few, with zeros after them
  pub padded-number : (m n : ℕ) {front : List ℕ} → front ≡ drop at s → number_at k 0 (front ++ drop m (replicate n 0)) ≡ number_at k at s
  padded-number m n d = rw d (zeros-after (drop m (replicate n 0)) (λ i. get_or-drop m (replicate n 0) i 0 ∙ zeros n (m + i)) k 0 (drop at s) ∙ there)

-- one by one
add-two : (n : ℕ) → n + 2 ≡ suc (suc n)
add-two n = omega arith

add-three : (n : ℕ) → n + 3 ≡ suc (suc (suc n))
add-three n = omega arith

pub two_bytes : (s : List ℕ) (at : ℕ) → number_at 2 0 (byte_at s at ∷ byte_at s (at + 1) ∷ []) ≡ number_at 2 at s
unfolding number_at
two_bytes s at = rw (add-one at)

pub four_bytes : (s : List ℕ) (at : ℕ) → number_at 4 0 (byte_at s at ∷ byte_at s (at + 1) ∷ byte_at s (at + 2) ∷ byte_at s (at + 3) ∷ []) ≡ number_at 4 at s
unfolding number_at
four_bytes s at = rw (add-one at, add-two at, add-three at)

-- ---- Bytes stored one after the other

pub stored-two : (s : List ℕ) (at n : ℕ) {a b : ℕ} → at + 2 ≤ length s → a ≡ n / 256 % 256 → b ≡ n / 1 % 256 → set (set s at a) (at + 1) b ≡ pasted s at (bytes_of 2 n)
unfolding bytes_of
stored-two s at n {a} {b} h p q = rw (← p, ← q, add-one) (stored-pasted s at (a ∷ b ∷ []) h)

pub stored-four : (s : List ℕ) (at n : ℕ) {a b c d : ℕ} → at + 4 ≤ length s → a ≡ n / 16_777_216 % 256 → b ≡ n / 65_536 % 256 → c ≡ n / 256 % 256 → d ≡ n / 1 % 256 → set (set (set (set s at a) (at + 1) b) (at + 2) c) (at + 3) d ≡ pasted s at (bytes_of 4 n)
unfolding bytes_of
stored-four s at n {a} {b} {c} {d} h p q r t = rw (← p, ← q, ← r, ← t, add-one, add-two, add-three) (stored-pasted s at (a ∷ b ∷ c ∷ d ∷ []) h)

-- four bytes and then four are eight
pub stored-eight : (s : List ℕ) (at n : ℕ) {half all : List ℕ} → at + 8 ≤ length s → half ≡ pasted s at (bytes_of 4 (n / 4_294_967_296)) → all ≡ pasted half (at + 4) (bytes_of 4 (n % 4_294_967_296)) → all ≡ pasted s at (bytes_of 8 n)
stored-eight s at n h p q =
    let high = bytes_of 4 (n / 4_294_967_296) in
    let four = length-bytes 4 (n / 4_294_967_296) in
    q ∙ rw (p, bytes_rest 4 n, bytes-parts 4 4 n, four) (rw four at (pasted-then s at high (bytes_of 4 n) (omega arith)))

-- ---- Numbers in bytes

-- what the library's `from_be_bytes` makes
module _ (s : List ℕ) where
  pub from-two : from_be_bytes w16 s ≡ number_at 2 0 s
  unfolding number_at
  from-two = omega arith

  pub from-four : from_be_bytes w32 s ≡ number_at 4 0 s
  unfolding number_at
  from-four = omega arith

  pub from-eight : from_be_bytes w64 s ≡ number_at 8 0 s
  unfolding number_at
  from-eight = omega arith

-- and `to_be_bytes`
pub high-first : (k n : ℕ) → bytes_high_first k n ≡ bytes_of k n
unfolding bytes_of
high-first zero n = refl
high-first (suc zero) n = rw (div-one n)
high-first (suc (suc k)) n = ap (λ (s : List ℕ). n / 256 ^ suc k % 256 ∷ s) (high-first (suc k) n)

-- ---- The sign

-- a signed number of the same bits, which the code keeps as such
module _ (n : ℕ) where
  pub signed-16 : n < 2 ^ 16 → to_z w16 (of_z w16 (to_z w16 n)) ≡ signed (2 ^ 15) n
  signed-16 h = ap (to_z w16) (of_z-to_z w16 n h) ∙ sym (in_two (2 ^ 15) n h)

  pub signed-32 : n < 2 ^ 32 → to_z w32 (of_z w32 (to_z w32 n)) ≡ signed (2 ^ 31) n
  signed-32 h = ap (to_z w32) (of_z-to_z w32 n h) ∙ sym (in_two (2 ^ 31) n h)

-- the bits of a signed number
pub bits-16 : (z : ℤ) → of_z w16 z ≡ bits (2 ^ 15) z
unfolding bits
bits-16 (pos n) = refl
bits-16 (negsuc n) = refl

pub bits-32 : (z : ℤ) → of_z w32 z ≡ bits (2 ^ 31) z
unfolding bits
bits-32 (pos n) = refl
bits-32 (negsuc n) = refl

-- below the half a number stands for itself, and from it on for the number that is less by the whole
pub signed_low : (half n : ℕ) → n < half → signed half n ≡ pos n
unfolding signed
signed_low half n h = rw (lt-ltb n half h)

pub signed_high : (half n : ℕ) → half ≤ n → signed half n ≡ pos n -ℤ pos (2 * half)
unfolding signed
signed_high half n h = rw (le-ltb n half h)

-- from 0 on a number stands for itself, and what stands for one below 0 is more by the whole
pub bits-low : (half : ℕ) (z : ℤ) → le_z (pos 0) z ≡ true → z ≡ pos (bits half z)
unfolding bits
bits-low half (pos n) e = refl
bits-low half (negsuc n) e = absurd (true≢false (sym e))

pub bits-high : (half : ℕ) (z : ℤ) → mag z < half → le_z (pos 0) z ≡ false → z +ℤ pos (2 * half) ≡ pos (bits half z)
unfolding bits
bits-high half (pos n) h e = absurd (omega (arith, leb-false 0 n e))
bits-high half (negsuc n) h e = rw (le-ltb (2 * half) (suc n) (omega arith))
