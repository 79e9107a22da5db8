-- A loop that goes through the points of an array: what is left of them at each place.
use Prim.Native.Nat.{ℕ, ◌<◌, ◌≤◌, ◌*◌}
use native.Mathlib.Omega.{arith}
use mathlib.Core.Path.{◌≡◌}
use mathlib.Core.List.{List}
use lib.ListN.{length, take}
use lib.Seq.{get_or-take, length-take-le, take-take}
use lib.IntN.{ℤ}
use Rattle.plane.specs.Words.{points_of, origin, point_at}
use Rattle.plane.proofs.Arrays.{length-points}
use Rattle.panbuckle.specs.Inner.{held}

module _ (n : ℕ) (a : List ℤ) (fits : 2 * n ≤ length a) where
  -- an array that is long enough holds n points
  pub held-length : length (held n a) ≡ n
  held-length = length-take-le n (points_of a) (let h = length-points a in omega arith)

  -- the point at a place is the array's
  pub held_at : (i : ℕ) → i < n → point_at (held n a) i ≡ point_at (points_of a) i
  held_at i l = get_or-take n (points_of a) i origin l

-- the points before place i
pub fewer : (n : ℕ) (a : List ℤ) (i : ℕ) → i ≤ n → take i (held n a) ≡ held i a
fewer n a i h = take-take i n (points_of a) h
