-- The keys of points in range, and of lists of points.
use Prim.Native.Nat.{ℕ, ◌<◌, ◌≤◌}
use native.Mathlib.Omega.{arith}
use mathlib.Core.Path.{◌≡◌, refl, ap}
use mathlib.Core.Bool.{Bool, true, xor}
use mathlib.Core.List.{List, [], ◌∷◌, Memᴰ as In}
use Rattle.plane.specs.declared.Point.{Point}
use Rattle.plane.specs.Lists.{odd}
use Rattle.plane.specs.Words.{in_range, point_in_range}
use Rattle.plane.specs.Keys.{key_of, point_of}
use Rattle.plane.proofs.Bools.{and_parts}
use Rattle.plane.proofs.Order.{range-up}
use Rattle.plane.proofs.Maps.{map_back}
use Rattle.plane.proofs.Keys.{range-fits, point-raised, key-point}
use Rattle.outline.specs.declared.TheConstants.{START, END}
use Rattle.outline.specs.Inner.{keys_of, points_of_keys}

-- ---- One point

-- a key of a point in range is from the first to below the end
pub key-within : (p : Point) → point_in_range p ≡ true → (START ≤ key_of p) × (key_of p < END)
unfolding key_of point_in_range
key-within p e =
    let h = and_parts (in_range p.x) (in_range p.y) e in
    let row = range-up p.y h.1 in
    let r = point-raised p (range-fits p e) in
    (omega arith, omega arith)

-- ---- Lists of points

-- the parity of a test over the keys
pub odd-keys : (f : ℕ → Bool) (ps : List Point) → odd f (keys_of ps) ≡ odd (λ p. f (key_of p)) ps
unfolding odd
odd-keys f [] = refl
odd-keys f (p ∷ ps) = ap (xor (f (key_of p))) (odd-keys f ps)

-- the points of the keys of points in range are these
pub keys-points : (ps : List Point) → ((q : Point) → In q ps → point_in_range q ≡ true) → points_of_keys (keys_of ps) ≡ ps
keys-points ps range = map_back key_of point_of ps (λ q m. key-point q (range-fits q (range q m)))
