-- Whole numbers in bytes, the highest byte first, at a place of some bytes.
use Rattle.std.specs.Prelude.{ℕ, zero, suc, ◌+◌, ◌-◌, ◌*◌, ◌/◌, ◌%◌, ◌^◌, ◌<◌, cond, List, [], ◌∷◌, get_or, ℤ, pos, negsuc, ◌-ℤ◌, ltb}

-- the byte at a place, and 0 past the end
abbrev pub byte_at : List ℕ → (i : ℕ) → ℕ
byte_at s i = get_or s i 0

-- what stands at each place is a byte
pub record Bytes (s : List ℕ) : Type 0 where
  pub below : (i : ℕ) → byte_at s i < 256

-- the number in the k bytes from a place on
unfoldable pub number_at : (k at : ℕ) → List ℕ → ℕ
number_at zero at s = 0
number_at (suc k) at s = byte_at s at * 256 ^ k + number_at k (suc at) s

-- a number in k bytes
unfoldable pub bytes_of : (k n : ℕ) → List ℕ
bytes_of zero n = []
bytes_of (suc k) n = n / 256 ^ k % 256 ∷ bytes_of k n

-- ---- With a sign, in two's complement

-- the number that n stands for: from a half of the whole on, it is less by the whole
unfoldable pub signed : (half n : ℕ) → ℤ
signed half n = cond (ltb n half) (pos n) (pos n -ℤ pos (2 * half))

-- what stands for a number: for one below 0, what is more by the whole
unfoldable pub bits : (half : ℕ) → ℤ → ℕ
bits half (pos n) = n
bits half (negsuc n) = 2 * half - suc n
