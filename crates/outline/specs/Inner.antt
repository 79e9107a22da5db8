-- What the private functions speak of. No caller needs these definitions: the promise is in the crate `rule`.
use Rattle.std.specs.Prelude.{ℕ, ◌<◌, ◌≤◌, ◌≡◌, Bool, true, ◌&&◌, ◌||◌, List, [], ◌∷◌, ◌++◌, map, ℤ, ◌+ℤ◌, leb, ltb}
use Rattle.std.specs.Bool.{xor}
use Rattle.plane.specs.declared.Point.{Point}
use Rattle.plane.specs.Lists.{odd, only}
use Rattle.plane.specs.Words.{in_range}
use Rattle.plane.specs.Keys.{key_of, point_of}

-- ---- Checks

-- a coordinate and the far side are in range
abbrev pub spans_range : (near by : ℤ) → Bool
spans_range near by = in_range near && in_range (near +ℤ by)

-- ---- Keys

-- the keys of points
abbrev pub keys_of : List Point → List ℕ
keys_of ps = map key_of ps

-- the points of keys
abbrev pub points_of_keys : List ℕ → List Point
points_of_keys ks = map point_of ks

-- ---- The keys that stand an odd number of times

-- numbers after k stand in strictly rising order
unfoldable pub climbs_after : ℕ → List ℕ → Bool
climbs_after k [] = true
climbs_after k (j ∷ rest) = ltb k j && climbs_after j rest

-- numbers stand in strictly rising order
unfoldable pub climbs : List ℕ → Bool
climbs [] = true
climbs (k ∷ rest) = climbs_after k rest

-- the numbers that stand an odd number of times, once each, in order: every test passes as odd a number of them
pub record OddOnes (before after : List ℕ) : Type 0 where
  pub climbing : climbs after ≡ true
  pub parity : (f : ℕ → Bool) → odd f after ≡ odd f before

-- ---- A batch

-- a key is from a start to below an end
unfoldable pub within : (start end : ℕ) → ℕ → Bool
within start end k = leb start k && ltb k end

-- no key from left to right is
abbrev pub misses : (start end left right : ℕ) → Bool
misses start end left right = ltb right start || leb end left

-- what a batch holds: keys from a start to below an end
pub record Keys : Type 0 where
  pub start : ℕ
  pub end : ℕ
  pub keys : List ℕ

-- a batch in the making: the keys held have, for every test, the parity of those of all keys that are within and no longer to come
pub record Gathers (start asked end : ℕ) (all to-come kept : List ℕ) : Type 0 where
  pub beyond : start < end
  pub not_beyond : end ≤ asked
  pub parity : (f : ℕ → Bool) → xor (odd f kept) (odd (λ k. within start end k && f k) to-come) ≡ odd (λ k. within start end k && f k) all

-- a batch takes keys: where it is in the making with these yet to come, it is afterwards without them
pub record Takes (ks : List ℕ) (before after : Keys) : Type 0 where
  pub start : after.start ≡ before.start
  pub takes : (asked : ℕ) (all rest : List ℕ) → Gathers before.start asked before.end all (ks ++ rest) before.keys → Gathers before.start asked after.end all rest after.keys

-- the points with keys from a start to below an end
abbrev pub batch_of : (start end : ℕ) → List Point → List Point
batch_of start end ps = only (λ p. within start end (key_of p)) ps

-- a batch of a list's points from a start on: all of them to below its end, which is above the start and not above the one asked for
pub record IsBatch (ps : List Point) (start asked : ℕ) (b : Keys) : Type 0 where
  pub from : b.start ≡ start
  pub beyond : start < b.end
  pub not_beyond : b.end ≤ asked
  pub keys : b.keys ≡ keys_of (batch_of start b.end ps)
