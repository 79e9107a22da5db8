-- Points put into an array one after the other.
use mathlib.Core.Path.{◌≡◌, refl, sym, ap, ◌∙◌}
use Prim.Native.Nat.{ℕ, suc, ◌+◌, ◌*◌, ◌≤◌}
use native.Mathlib.Omega.{arith}
use mathlib.Core.Bool.{Bool, true, false}
use mathlib.Core.List.{List, [], ◌∷◌, ◌++◌}
use lib.ListN.{length, take, drop, take-append-drop}
use lib.IntN.{ℤ}
use Rattle.plane.specs.declared.Point.{Point}
use Rattle.plane.specs.Lists.{bit, keep, pasted}
use Rattle.plane.specs.Words.{flat_points}
use Rattle.plane.proofs.Arrays.{length-flat-points}
use Rattle.plane.proofs.AtPlace.{put-with-room, put-length, pasted-then, pasted-there}
use Rattle.gdsii.specs.Inner.{put_point, put_points}

-- the array stays as long as it was
pub put-points-length : (a : List ℤ) (i : ℕ) (ps : List Point) → length (put_points a i ps) ≡ length a
unfolding put_points
put-points-length a i [] = refl
put-points-length a i (p ∷ ps) = put-points-length (put_point a i p) (suc i) ps ∙ put-length a (2 * i) (p.x ∷ p.y ∷ [])

-- a vertex that may be a corner, and the others
pub kept-length : (t : Bool) (p : Point) (ps : List Point) → length (keep t p ps) ≡ bit t + length ps
kept-length true p ps = omega arith
kept-length false p ps = omega arith

pub put-kept : (a : List ℤ) (i : ℕ) (t : Bool) (p : Point) (ps : List Point) → put_points (put_points a i (keep t p [])) (i + bit t) ps ≡ put_points a i (keep t p ps)
unfolding put_points
put-kept a i true p ps = let e : i + 1 ≡ suc i = omega arith in ap (λ (k : ℕ). put_points (put_point a i p) k ps) e
put-kept a i false p ps = let e : i + 0 ≡ i = omega arith in ap (λ (k : ℕ). put_points a k ps) e

pub put-none : (a : List ℤ) (i : ℕ) → put_points a i [] ≡ a
unfolding put_points
put-none a i = refl

-- points put after points
pub put-points-then : (a : List ℤ) (i : ℕ) (ps qs : List Point) → put_points (put_points a i ps) (i + length ps) qs ≡ put_points a i (ps ++ qs)
unfolding put_points
put-points-then a i [] qs = let e : i + 0 ≡ i = omega arith in ap (λ (k : ℕ). put_points a k qs) e
put-points-then a i (p ∷ ps) qs =
    let e : i + suc (length ps) ≡ suc i + length ps = omega arith in
    ap (λ (k : ℕ). put_points (put_points (put_point a i p) (suc i) ps) k qs) e ∙ put-points-then (put_point a i p) (suc i) ps qs

-- where there is room for all, their numbers are put
put-points-pasted : (a : List ℤ) (i : ℕ) (ps : List Point) → 2 * (i + length ps) ≤ length a → put_points a i ps ≡ pasted a (2 * i) (flat_points ps)
unfolding put_points flat_points
put-points-pasted a i [] h = sym (take-append-drop (2 * i) a)
put-points-pasted a i (p ∷ ps) h =
    let pair : List ℤ = p.x ∷ p.y ∷ [] in
    let two : 2 * suc i ≡ 2 * i + 2 = omega arith in
    put-points-pasted (put_point a i p) (suc i) ps (rw (put-length a (2 * i) pair) (omega arith))
    ∙ rw (put-with-room a (2 * i) pair (omega arith), two) (pasted-then a (2 * i) pair (flat_points ps) (omega arith))

-- and are there
pub put-points-there : (a : List ℤ) (i : ℕ) (ps : List Point) → 2 * (i + length ps) ≤ length a → take (2 * length ps) (drop (2 * i) (put_points a i ps)) ≡ flat_points ps
put-points-there a i ps h = rw (put-points-pasted a i ps h, ← length-flat-points ps) (pasted-there a (2 * i) (flat_points ps) (omega arith))
