-- The corners handed on, given to forward: its checks come down to WORK and ROOM, and its list covers exactly the cells that the boundaries mark.
use mathlib.Core.Path.{◌≡◌, sym, ap, ap₂, ◌∙◌}
use Prim.Native.Nat.{ℕ, ◌*◌, ◌/◌, ◌≤◌}
use native.Mathlib.Omega.{arith}
use mathlib.Core.Bool.{true, false, cond}
use mathlib.Core.List.{List, [], ◌∷◌, ◌++◌, Memᴰ as In}
use lib.ListN.{length}
use lib.IntN.{ℤ}
use lib.Dec.{ltb}
use Rattle.plane.specs.declared.Point.{Point}
use Rattle.plane.specs.Lists.{bit, any, count}
use Rattle.plane.specs.Words.{most_points, points_of, point_in_range, rect_size, holds}
use Rattle.plane.specs.Remaining.{Balanced}
use Rattle.entry.specs.Checks.{Check, refused, verdict}
use Rattle.entry.proofs.Verdicts.{verdict-whole, verdict-passes, verdict-append, accepted-clear}
use Rattle.rule.specs.Rows.{LENGTH, MANY, WORK, ROOM, balance_checks}
use Rattle.rule.specs.ForwardCall.{forward_list, forward_checks, ForwardAccepted, input_checks}
use Rattle.rule.proofs.Rows.{length-clear, many-clear, balance-clear}
use Rattle.rule.proofs.Remaining.{remaining-covers}
use Rattle.boundaries.specs.Boundary.{inside, handed_on, overlaps}
use Rattle.boundaries.proofs.Handed.{Shapes, handed-balanced, handed-exactly}

-- closed boundaries without slanted edges, with corners in range, and an array of the corners handed on
module _ (bs : List (List Point)) (s : Shapes bs) (within : (p : Point) → In p (handed_on bs) → point_in_range p ≡ true) (a : List ℤ) (points : points_of a ≡ handed_on bs) where
  -- the points are in range, with every row and every column even
  array-even : Balanced (points_of a)
  array-even = rw points (handed-balanced bs s within)

  -- demand 3 of the boundaries: where no two of them mark one cell, each unit cell is in exactly one rectangle of forward's list if a boundary
  -- marks it, and in none otherwise
  pub boundaries-covered : overlaps bs ≡ false → (x y : ℤ) → count (holds x y) (forward_list a) ≡ bit (any (inside x y) bs)
  boundaries-covered apart x y = remaining-covers (points_of a) array-even x y ∙ rw points (ap bit (handed-exactly bs s within apart x y))

  -- where they are at most 4,096
  module _ (even : length a ≡ 2 * length (handed_on bs)) (few : length (handed_on bs) ≤ most_points) (work out : ℕ) where
    -- with work for two numbers per point, and room for the list, forward accepts them
    pub boundaries-accepted : 2 * length (handed_on bs) ≤ work → length (forward_list a) ≤ out / rect_size → ForwardAccepted a work out
    boundaries-accepted working room = record { even = omega arith; few = omega arith; working = omega arith; points = array-even; room = room }

    -- and it refuses nothing but WORK and ROOM, never a row or a column
    pub boundaries-asked : verdict (forward_checks a work out) ≡ verdict (WORK work (length (handed_on bs)) ∷ ROOM (length (forward_list a)) (out / rect_size) ∷ [])
    unfolding forward_checks input_checks
    boundaries-asked =
        verdict-passes (LENGTH (length a) 2) _ ((length-clear (length a) 2).1 (omega arith))
        ∙ verdict-passes (MANY most_points (length a / 2)) _ ((many-clear most_points (length a / 2)).1 (omega arith))
        ∙ verdict-whole 3 0 _ _
        ∙ ap₂ (λ n v. cond (ltb work (2 * n)) (refused 3 0) v) half later
        ∙ sym (verdict-whole 3 0 _ _)
      where
        half : length a / 2 ≡ length (handed_on bs)
        half = omega arith

        last : List Check
        last = ROOM (length (forward_list a)) (out / rect_size) ∷ []

        later : verdict (balance_checks (points_of a) ++ last) ≡ verdict last
        later = rw (verdict-append (balance_checks (points_of a)) last, (accepted-clear (balance_checks (points_of a))).1 ((balance-clear (points_of a)).1 array-even))
