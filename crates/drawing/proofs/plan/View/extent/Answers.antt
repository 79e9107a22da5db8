-- `drawing::plan::View::extent` meets its contract.
use Prim.Native.Nat.{◌^◌, ◌<◌}
use native.Mathlib.Omega.{arith}
use mathlib.Core.Path.{refl}
use lib.Signed.{mag, nat_abs-le}
use Rattle.plane.proofs.Bits.{back}
use Rattle.drawing.proofs.Bounds.{extent-from, extent-most}
use Rattle.drawing.proofs.plan.View.extent.Goals as goal

pub returns : goal.returns
returns c =
    let z = c.args.z in
    let f : mag z < 2 ^ 31 = omega arith in
    let e = extent-from z c.try_from.result (omega (arith, nat_abs-le z f)) (rw (back z f) at c.try_from.ensures) in
    rw (c.unwrap_or.ensures, e) (record { value = refl; upper_bound = omega (arith, extent-most z, nat_abs-le z f) })
