-- A working array into whose start the points that remain of an array have been copied.
use Prim.Native.Nat.{ℕ, ◌/◌, ◌≤◌}
use native.Mathlib.Omega.{arith}
use mathlib.Core.Path.{◌≡◌}
use mathlib.Core.List.{List, []}
use lib.ListN.{length}
use lib.IntN.{ℤ}
use Rattle.plane.specs.Words.{points_of}
use Rattle.plane.proofs.Arrays.{length-points}
use Rattle.plane.proofs.Remaining.{remaining-few}
use Rattle.rule.specs.Working.{work_of}
use Rattle.rule.specs.ForwardCall.{ForwardAccepted, points_remaining}
use Rattle.rule.proofs.Remaining.{remaining-accepted}
use Rattle.rule.proofs.Working.{work-length, work-points, work-again}
use Rattle.panbuckle.specs.Inner.{held}
use Rattle.panbuckle.specs.Calls.{copied, copies}
use Rattle.panbuckle.proofs.Taking.{Holds}

module _ (a work : List ℤ) where
  -- no more are copied than are given
  copies-few : copies a ≤ length a / 2
  copies-few = omega (arith, remaining-few (points_of a), length-points a)

  -- it holds them
  pub copied-points : held (copies a) (copied a work) ≡ points_remaining a
  copied-points = work-points (length a / 2) (points_remaining a) work

  -- drained, it is the working array drained of two numbers for each point given
  pub copied-drained : work_of (copies a) [] (copied a work) ≡ work_of (length a / 2) [] work
  copied-drained = work-again (copies a) (length a / 2) (points_remaining a) [] work (omega arith) (omega arith) copies-few

  -- of points that forward accepts, it holds accepted points
  pub copied-holds : {out : ℕ} → ForwardAccepted a (length work) out → Holds (copied a work) (copies a)
  copied-holds h =
      let few = copies-few in
      record {
        few = omega (arith, h.few);
        working = omega (arith, work-length (length a / 2) (points_remaining a) work few h.working, h.working);
        points = rw copied-points (remaining-accepted (points_of a) h.points);
      }
