-- `outline::put_points` meets its contract.
use Prim.Native.Nat.{ℕ, suc, ◌+◌, ◌<◌, ◌≤◌}
use native.Mathlib.Numerals.{add-one}
use native.Mathlib.Omega.{arith}
use mathlib.Core.Path.{◌≡◌, refl, ap, ◌∙◌}
use mathlib.Core.List.{List, [], ◌∷◌, ◌++◌, map-append}
use lib.ListN.{length, get_or, take, length-map}
use lib.Seq.{take-suc, length-take-le}
use Rattle.plane.specs.Words.{flat_points}
use Rattle.plane.specs.Keys.{point_of}
use Rattle.plane.proofs.Bits.{back}
use Rattle.plane.proofs.AtStart.{start-point}
use Rattle.outline.specs.Inner.{points_of_keys}
use Rattle.outline.proofs.put_points.Goals as goal

-- the first i keys have i points
length-first : (ks : List ℕ) (i : ℕ) → i ≤ length ks → length (points_of_keys (take i ks)) ≡ i
length-first ks i h = length-map (take i ks) point_of ∙ length-take-le i ks h

-- and one more with the next
next-first : (ks : List ℕ) (i : ℕ) → i < length ks → points_of_keys (take (suc i) ks) ≡ points_of_keys (take i ks) ++ (point_of (get_or ks i 0) ∷ [])
next-first ks i h = ap points_of_keys (take-suc ks i 0 h) ∙ map-append point_of (take i ks) (get_or ks i 0 ∷ [])

pub loop-i-init : goal.loop-i-init
unfolding flat_points
loop-i-init c = refl

pub loop-i-preserved : goal.loop-i-preserved
loop-i-preserved c =
    let p = c.point_of-p.result in
    let ks = c.args.keys.now in
    let i = c.loop-i.i in
    let next : points_of_keys (take (i + 1) ks) ≡ points_of_keys (take i ks) ++ (p ∷ []) = rw (add-one, c.point_of-p.ensures) (next-first ks i (omega arith)) in
    rw (back p.x (omega arith), back p.y (omega arith), c.loop-i.invariant, next) (start-point (points_of_keys (take i ks)) p c.args.points.now i (length-first ks i (omega arith)) (omega arith))
