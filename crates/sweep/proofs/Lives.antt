-- Live rectangles in an array of numbers: how many there are, and one put at a place.
use mathlib.Core.Path.{◌≡◌, ◌∙◌}
use Prim.Native.Nat.{ℕ, ◌+◌, ◌*◌, ◌/◌, ◌≤◌}
use native.Mathlib.Omega.{arith}
use mathlib.Core.List.{List}
use lib.ListN.{length, drop, set, length-set}
use lib.Seq.{drop-set-lt}
use lib.IntN.{ℤ}
use Rattle.plane.proofs.Arrays.{length-fours, fours-set}
use Rattle.live.specs.declared.Live.{Live}
use Rattle.sweep.specs.Inner.{put_four, live_size, lives_of, put_live}

-- ---- Four numbers put into an array

module _ (a : List ℤ) (i : ℕ) (p q r s : ℤ) where
  -- it is as long as it was
  pub length-put : length (put_four a i p q r s) ≡ length a
  length-put = simp length-set

  -- past them it is as it was
  pub drop-put : (n : ℕ) → i + 4 ≤ n → drop n (put_four a i p q r s) ≡ drop n a
  drop-put n l =
      let b : List ℤ = set a i p in
      let c : List ℤ = set b (i + 1) q in
      let d : List ℤ = set c (i + 2) r in
      drop-set-lt n d (i + 3) s (omega arith)
      ∙ drop-set-lt n c (i + 2) r (omega arith)
      ∙ drop-set-lt n b (i + 1) q (omega arith)
      ∙ drop-set-lt n a i p (omega arith)

-- ---- Live rectangles of an array

-- an array has as many as have their numbers in it
pub length-lives : (a : List ℤ) → length (lives_of a) ≡ length a / live_size
length-lives a = length-fours _ a

-- one put at a place is set there
pub lives-put : (a : List ℤ) (i : ℕ) (k : Live) → live_size * (i + 1) ≤ length a → lives_of (put_live a i k) ≡ set (lives_of a) i k
lives-put a i k l = fours-set _ a i k.left k.right k.row k.place (omega arith)
