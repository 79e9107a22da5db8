-- `outline::corner_keys` meets its contract: the far sides are in range, as all coordinates.
use Prim.Native.Nat.{◌^◌, ◌<◌}
use native.Mathlib.Omega.{arith}
use mathlib.Core.Path.{◌≡◌}
use mathlib.Core.Bool.{true}
use lib.IntN.{ℤ, ◌+ℤ◌}
use lib.Signed.{mag}
use mir.Syntax.{w32}
use mir.Val.{of_z, to_z, SFits}
use Rattle.plane.specs.Words.{in_range, right, top, rect_in_range, corners_of}
use Rattle.plane.proofs.Bools.{and-four}
use Rattle.plane.proofs.Order.{range-most}
use Rattle.plane.proofs.Bits.{back}
use Rattle.outline.proofs.corner_keys.Goals as goal
use Rattle.outline.proofs.corner_keys.Goals.{Start}

-- a coordinate's numbers are as they were, and the far side is their sum
record Sum (near by : ℤ) : Type 0 where
  pub fits : SFits w32 (to_z w32 (of_z w32 near) +ℤ to_z w32 (of_z w32 by))
  pub same : to_z w32 (of_z w32 near) ≡ near
  pub is : to_z w32 (of_z w32 (to_z w32 (of_z w32 near) +ℤ to_z w32 (of_z w32 by))) ≡ near +ℤ by

sum : (near by : ℤ) → mag by < 2 ^ 31 → in_range near ≡ true → in_range (near +ℤ by) ≡ true → Sum near by
sum near by m p q =
    let h = range-most near p in
    let k = range-most (near +ℤ by) q in
    let n = back near (omega arith) in
    record { fits = rw (n, back by m) (omega arith); same = n; is = rw (n, back by m) (back (near +ℤ by) (omega arith)) }

-- the sums across and upwards
sums : (c : Start) → let r = c.args.r in Sum r.x r.w × Sum r.y r.h
unfolding rect_in_range
sums c =
    let r = c.args.r in
    let h = and-four (in_range r.x) (in_range r.y) (in_range (right r)) (in_range (top r)) c.requires in
    (sum r.x r.w (omega arith) h.0 h.2, sum r.y r.h (omega arith) h.1 h.3)

pub overflow_add-right : goal.overflow_add-right
overflow_add-right c = (sums (goal.at.overflow_add-right c).Start).0.fits

pub overflow_add-top : goal.overflow_add-top
overflow_add-top c = (sums (goal.at.overflow_add-top c).Start).1.fits

pub returns : goal.returns
unfolding corners_of
returns c =
    let s = sums (goal.at.returns c).Start in
    rw (c.key_of.ensures, c.key_of-2.ensures, c.key_of-3.ensures, c.key_of-4.ensures, s.0.is, s.1.is, s.0.same, s.1.same)
