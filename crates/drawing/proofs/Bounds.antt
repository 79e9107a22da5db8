-- Where things stand in a picture, at the most.
use Prim.Native.Nat.{ℕ, ◌+◌, ◌/◌, ◌≤◌}
use native.Mathlib.Nat.{div-le_of_le-mul}
use native.Mathlib.Omega.{arith}
use mathlib.Core.Path.{◌≡◌, refl}
use Rattle.std.proofs.Common.{Result, Ok, Err, ℤ, pos, negsuc, nat_abs, unsigned_abs, ◌<◌, ◌^◌}
use Rattle.std.specs.Int.{FitsUnsignedBits}
use Rattle.std.specs.Result.{OkIff, result_unwrap_or}
use Rattle.plane.specs.declared.Rect.{Rect}
use Rattle.plane.specs.Keys.{raised}
use Rattle.drawing.specs.declared.plan.View.{View}
use Rattle.drawing.specs.declared.plan.Box.{Box}
use Rattle.drawing.specs.Plan.{extent, scaled-most, across, down, free_beside, box_of, number_size, dot_radius}

pub across-most : (v : View) (x : ℕ) → across v x ≤ 100_000
unfolding across
across-most v x = scaled-most v.span v.left x

pub down-most : (v : View) (y : ℕ) → down v y ≤ 100_000
unfolding down
down-most v y = omega (arith, v.low)

pub beside-most : (v : View) → free_beside v ≤ 50_000
unfolding free_beside
beside-most v = omega arith

pub size-most : (b : Box) → number_size b ≤ 4000
unfolding number_size
size-most b = omega arith

pub radius-most : (count : ℕ) → dot_radius count ≤ 300
unfolding dot_radius
radius-most count = div-le_of_le-mul (100 + count / 16) (omega arith)

-- the numbers of a box in the picture have at most six digits
pub box-small : (v : View) (r : Rect) → let b = box_of v r in (b.x ≤ 100_000) × (b.y ≤ 100_000) × (b.w ≤ 100_000) × (b.h ≤ 100_000)
unfolding box_of
box-small v r =
    let left = across-most v (raised r.x) in
    let right = across-most v (raised r.x + extent r.w) in
    let top = down-most v (raised r.y + extent r.h) in
    let bottom = down-most v (raised r.y) in
    (left, top, omega arith, omega arith)

-- a side's length is what can be made an unsigned number of it, and else 0
pub extent-from : {E : Type 0} (z : ℤ) (r : Result ℕ E) → nat_abs z < 2 ^ 64 → OkIff r (FitsUnsignedBits 64 z) (unsigned_abs z) → result_unwrap_or r 0 ≡ extent z
extent-from (pos n) (Ok x) h o = o.1
extent-from (pos n) (Err e) h o = absurd (o h)
extent-from (negsuc n) (Ok x) h o = absurd o.0
extent-from (negsuc n) (Err e) h o = refl

pub extent-most : (z : ℤ) → extent z ≤ nat_abs z
extent-most (pos n) = omega arith
extent-most (negsuc n) = omega arith
