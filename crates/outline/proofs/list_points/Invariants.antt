-- The invariant of `outline::list_points`: the points with keys below `start` are listed, and written if all have room.
use Prim.Native.Nat.{ℕ, ◌*◌, ◌-◌, ◌<◌, ◌≤◌}
use mathlib.Core.Path.{◌≡◌}
use mathlib.Core.List.{List}
use lib.ListN.{length}
use lib.IntN.{ℤ}
use Rattle.plane.specs.declared.Rect.{Rect}
use Rattle.plane.specs.Lists.{at_start}
use Rattle.plane.specs.Words.{rects_of, flat_points}
use Rattle.rule.specs.Back.{back_list}
use Rattle.outline.specs.declared.TheConstants.{START, END}
use Rattle.outline.specs.Inner.{batch_of}
use Rattle.outline.proofs.list_points.Given as goal

-- the points with keys below the start are listed, and written if all have room; the next batch may go on to the end
pub record Listing (rs : List Rect) (points₀ points : List ℤ) (start end listed : ℕ) : Type 0 where
  pub from : START ≤ start
  pub started : start ≤ END
  pub asked : end ≤ END
  pub ahead : start < END → start < end
  pub points-length : length points ≡ length points₀
  pub many : listed ≡ length (batch_of START start (back_list rs))
  pub wrote : 2 * length (back_list rs) ≤ length points₀ → points ≡ at_start (flat_points (batch_of START start (back_list rs))) points₀

abbrev pub invariant-loop-start : goal.invariant-loop-start
invariant-loop-start l = Listing (rects_of l.rects) l.initial.points l.points l.start l.end l.listed

abbrev pub decreases-loop-start : goal.decreases-loop-start
decreases-loop-start l = END - l.start
