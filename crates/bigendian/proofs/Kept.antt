-- Both round trips, of whatever meets the contracts of a read and a write of k bytes: 2 for 16 bits, 4 for 32, 8 for 64. With a sign, half of
-- what k bytes count is 2^15 or 2^31.
use Prim.Native.Nat.{ℕ, ◌+◌, ◌*◌, ◌^◌, ◌<◌, ◌≤◌}
use mathlib.Core.Path.{◌≡◌, refl, ◌∙◌}
use mathlib.Core.List.{List}
use lib.ListN.{length}
use lib.IntN.{ℤ}
use lib.Signed.{mag}
use Rattle.plane.specs.Lists.{put_at}
use Rattle.bigendian.specs.Numbers.{Bytes, number_at, bytes_of, signed, bits}
use Rattle.bigendian.specs.contracts.U16BigEndian.TheImpl.{ghosts as u16}
use Rattle.bigendian.specs.contracts.U32BigEndian.TheImpl.{ghosts as u32}
use Rattle.bigendian.specs.contracts.U64BigEndian.TheImpl.{ghosts as u64}
use Rattle.bigendian.specs.contracts.I16BigEndian.TheImpl.{ghosts as i16}
use Rattle.bigendian.specs.contracts.I32BigEndian.TheImpl.{ghosts as i32}
use Rattle.bigendian.proofs.Laws.{number-below, read-written, written_read, bits_below, signed-bits, bits-signed}

module _ (k at : ℕ) (s : List ℕ) {after : List ℕ} (room : at + k ≤ length s) where
  -- a number written where there is room is read there
  pub written-then-read : {n r : ℕ} → n < 256 ^ k → after ≡ put_at s at (bytes_of k n) → r ≡ number_at k at after → r ≡ n
  written-then-read {n} small written read = read ∙ rw written (read-written k n at s small room)

  -- a number read and then written there changes nothing
  pub read-then-written : {n : ℕ} → Bytes s → n ≡ number_at k at s → after ≡ put_at s at (bytes_of k n) → after ≡ s
  read-then-written bytes read written = written ∙ rw read (written_read k at s bytes room)

  -- the same with a sign
  module _ (half : ℕ) (whole : 256 ^ k ≡ 2 * half) where
    pub signed-written-then-read : {z r : ℤ} → mag z < half → after ≡ put_at s at (bytes_of k (bits half z)) → r ≡ signed half (number_at k at after) → r ≡ z
    signed-written-then-read {z} small written read =
        read ∙ rw (written, read-written k (bits half z) at s (rw whole (bits_below half z small)) room) (signed-bits half z small)

    pub signed-read-then-written : {z : ℤ} → Bytes s → z ≡ signed half (number_at k at s) → after ≡ put_at s at (bytes_of k (bits half z)) → after ≡ s
    signed-read-then-written bytes read written =
        written ∙ rw (read, bits-signed half (number_at k at s) (rw whole at (number-below k at s bytes))) (written_read k at s bytes room)

-- ---- Each type of numbers, by what the trait says of it

-- a number of the type that is written where there is room is read there, and one that is read and then written there changes nothing
pub record Kept {A : Type 0} (size : ℕ) (read_as : ℕ → A) (written_as : A → ℕ) (Fits : A → Type 0) : Type 0 where
  pub written : (z : A) (at : ℕ) (s : List ℕ) → Fits z → at + size ≤ length s → read_as (number_at size at (put_at s at (bytes_of size (written_as z)))) ≡ z
  pub read : (at : ℕ) (s : List ℕ) → Bytes s → at + size ≤ length s → put_at s at (bytes_of size (written_as (read_as (number_at size at s)))) ≡ s

-- without a sign
unsigned : (k : ℕ) → Kept k (λ n. n) (λ n. n) (λ n. n < 256 ^ k)
unsigned k = record {
  written = λ n at s small room. written-then-read k at s room small refl refl;
  read = λ at s bytes room. read-then-written k at s room bytes refl refl;
}

pub u16-kept : Kept u16.size u16.read_as u16.written_as (λ n. n < 2 ^ 16)
u16-kept = unsigned 2

pub u32-kept : Kept u32.size u32.read_as u32.written_as (λ n. n < 2 ^ 32)
u32-kept = unsigned 4

pub u64-kept : Kept u64.size u64.read_as u64.written_as (λ n. n < 2 ^ 64)
u64-kept = unsigned 8

-- with a sign
with-sign : (k half : ℕ) → 256 ^ k ≡ 2 * half → Kept k (signed half) (bits half) (λ z. mag z < half)
with-sign k half whole = record {
  written = λ z at s small room. signed-written-then-read k at s room half whole small refl refl;
  read = λ at s bytes room. signed-read-then-written k at s room half whole bytes refl refl;
}

pub i16-kept : Kept i16.size i16.read_as i16.written_as (λ z. mag z < 2 ^ 15)
i16-kept = with-sign 2 (2 ^ 15) refl

pub i32-kept : Kept i32.size i32.read_as i32.written_as (λ z. mag z < 2 ^ 31)
i32-kept = with-sign 4 (2 ^ 31) refl
