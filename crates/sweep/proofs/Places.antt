-- The live rectangles that a sweep has passed and those ahead, and the point that is next: what stands where, and what one put at a place
-- changes.
use mathlib.Core.Path.{◌≡◌, refl, sym}
use Rattle.std.specs.Prelude.{Option, Some, None, slice_get}
use Rattle.std.proofs.lemmas.Option.{none-some, same_Some}
use mathlib.Core.Logic.{◌⊎◌, inl, inr}
use Prim.Native.Nat.{ℕ, zero, suc, ◌+◌, ◌*◌, ◌<◌, ◌≤◌}
use native.Mathlib.Numerals.{add-one}
use native.Mathlib.Omega.{arith}
use mathlib.Core.Bool.{Bool, true, false, cond, ◌&&◌}
use mathlib.Core.List.{List, [], ◌∷◌, ◌++◌}
use lib.ListN.{length, take, drop}
use lib.Seq.{take-suc-set}
use lib.IntN.{ℤ}
use lib.Signed.{le_z, lt_z}
use lib.Dec.{ltb}
use borrow.Author.Tests.{ltb-true, ltb-false}
use Rattle.plane.specs.declared.Point.{Point}
use Rattle.plane.specs.Words.{eq_z}
use Rattle.plane.proofs.Bools.{clash}
use Rattle.plane.proofs.Order.{order, eq_z-is, eq_z-refl}
use Rattle.plane.proofs.Places.{stretch-next, stretch-none, stretch-set}
use Rattle.live.specs.declared.Live.{Live}
use Rattle.live.specs.Stands.{far, next_on}
use Rattle.sweep.specs.Inner.{live_size, lives_of, zero_live, live_at, put_live, KeptPast, x_on, reached_at}
use Rattle.sweep.proofs.Lives.{length-lives, lives-put}
use Rattle.sweep.proofs.Past.{kept-live}

-- ---- One put at a place

-- a live rectangle put at place i of an array: it comes after those before it, those at later places and the numbers past it stay
pub record LivePut (work : List ℤ) (i : ℕ) (k : Live) (many past : ℕ) (after : List ℤ) : Type 0 where
  pub put-after : take (i + 1) (lives_of after) ≡ take i (lives_of work) ++ (k ∷ [])
  pub later-stay : (j : ℕ) → i < j → drop j (take many (lives_of after)) ≡ drop j (take many (lives_of work))
  pub kept : KeptPast past work after

-- it is so where it fits
pub live-put : (work : List ℤ) (i : ℕ) (k : Live) (many past : ℕ) → i < many → live_size * many ≤ past → past ≤ length work → LivePut work i k many past (put_live work i k)
live-put work i k many past h w f =
    let e = lives-put work i k (omega arith) in
    record {
      put-after = rw (e, add-one) (take-suc-set (lives_of work) i k (omega (arith, length-lives work)));
      later-stay = λ j l. rw e (stretch-set (lives_of work) i j many k l h);
      kept = kept-live past work i k (omega arith);
    }

-- ---- The next one ahead

module _ (work : List ℤ) (i many : ℕ) (x : ℤ) (w : live_size * many ≤ length work) where
  -- those ahead, and those after the next one
  abbrev lives : List Live
  lives = drop i (take many (lives_of work))

  abbrev others : List Live
  others = drop (i + 1) (take many (lives_of work))

  -- where it is there, it is the first of those ahead
  first-ahead : i < many → lives ≡ live_at work i ∷ others
  first-ahead h = stretch-next (lives_of work) i many zero_live h (omega (arith, length-lives work))

  -- where none is reached, none is ahead, or x is left of the first one
  pub none-reached : reached_at work i many x ≡ None → (lives ≡ []) ⊎ ((lives ≡ live_at work i ∷ others) × (lt_z x (live_at work i).left ≡ true))
  none-reached e = go (ltb i many) refl (le_z (live_at work i).left x) refl e
    where
      go : (t : Bool) → ltb i many ≡ t → (u : Bool) → le_z (live_at work i).left x ≡ u → cond (t && u) (Some (live_at work i)) None ≡ None → (lives ≡ []) ⊎ ((lives ≡ live_at work i ∷ others) × (lt_z x (live_at work i).left ≡ true))
      go false d u f n = inl (stretch-none (lives_of work) i many (ltb-false i many d))
      go true d false f n = inr (first-ahead (ltb-true i many d), omega order)
      go true d true f n = absurd (none-some (live_at work i) (sym n))

  -- one that is reached is the first of those ahead, and x is not left of it
  pub one-reached : {k : Live} → reached_at work i many x ≡ Some k → (i < many) × (lives ≡ k ∷ others) × (lt_z x k.left ≡ false)
  one-reached {k} e = go (ltb i many) refl (le_z (live_at work i).left x) refl e
    where
      go : (t : Bool) → ltb i many ≡ t → (u : Bool) → le_z (live_at work i).left x ≡ u → cond (t && u) (Some (live_at work i)) None ≡ Some k → (i < many) × (lives ≡ k ∷ others) × (lt_z x k.left ≡ false)
      go false d u f n = absurd (none-some k n)
      go true d false f n = absurd (none-some k n)
      go true d true f n =
          let h = ltb-true i many d in
          rw (← same_Some (live_at work i) k n) (h, first-ahead h, omega order)

-- ---- The next point

-- the first of some points, if there is one
abbrev pub next_of : List Point → Option Point
next_of [] = None
next_of (p ∷ ps) = Some p

-- the next point is the first of those to come
pub next-is-first : (qs : List Point) (i : ℕ) → slice_get qs i ≡ next_of (drop i qs)
next-is-first [] zero = refl
next-is-first [] (suc i) = refl
next-is-first (q ∷ qs) zero = refl
next-is-first (q ∷ qs) (suc i) = next-is-first qs i

-- on the row it is where the next point of the row is
pub on-row-at : (row : ℤ) (rest : List Point) → x_on row (next_of rest) ≡ next_on row rest
on-row-at row [] = refl
on-row-at row (p ∷ rest) = refl

-- a point to come on the row is the first of those to come
pub first-on-row : (row : ℤ) (rest : List Point) → eq_z (next_on row rest) far ≡ false → (p : Point) × (later : List Point) × (rest ≡ p ∷ later) × (p.y ≡ row) × (p.x ≡ next_on row rest)
first-on-row row [] e = clash (eq_z-refl far) e
first-on-row row (p ∷ rest) e = go (eq_z p.y row) refl e
  where
    go : (t : Bool) → eq_z p.y row ≡ t → eq_z (cond t p.x far) far ≡ false → (q : Point) × (later : List Point) × (p ∷ rest ≡ q ∷ later) × (q.y ≡ row) × (q.x ≡ cond t p.x far)
    go true d n = (p, rest, refl, eq_z-is p.y row d, refl)
    go false d n = clash (eq_z-refl far) n
