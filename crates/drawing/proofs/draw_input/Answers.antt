-- `drawing::draw_input` meets its contract: the points of a text that is accepted are drawn, and none of any other.
use Prim.Native.Nat.{◌*◌, ◌≤◌}
use native.Mathlib.Omega.{arith}
use mathlib.Core.Path.{◌≡◌, sym, ◌∙◌}
use lib.ListN.{length, take, length-replicate}
use lib.Seq.{length-take-le}
use lib.IntN.{pos}
use Rattle.plane.specs.Words.{flat_points}
use Rattle.entry.specs.Entry.{told}
use Rattle.text.specs.Program.{most_work}
use Rattle.drawing.specs.Picture.{points_shown}
use Rattle.drawing.proofs.Shown.{Read, points-read, count-or-none, picture-shown}
use Rattle.drawing.proofs.draw_input.Goals as goal
use Rattle.drawing.proofs.draw_input.Goals.{After-unwrap_or-count}

module _ (c : After-unwrap_or-count) where
  -- the reader is lent room for 4,096 points
  read : Read c.args.input.now (told c.read_points.result) c.read_points.new.points
  read = points-read _ c.read_points.ensures (omega (arith, length-replicate most_work (pos 0)))

  count : c.unwrap_or-count.result ≡ (told c.read_points.result).count
  count = c.unwrap_or-count.ensures ∙ count-or-none c.read_points.result

  -- what it leaves are the points shown
  fits : 2 * c.unwrap_or-count.result ≤ length c.read_points.new.points
  fits = rw count read.fits

  shown : take (2 * c.unwrap_or-count.result) c.read_points.new.points ≡ flat_points (points_shown c.args.input.now)
  shown = rw count read.numbers

pub overflow_mul-points : goal.overflow_mul-points
overflow_mul-points c =
    let u = (goal.at.overflow_mul-points c).After-unwrap_or-count in
    rw (count u) (omega (arith, (read u).few))

pub slice_bounds-points-end : goal.slice_bounds-points-end
slice_bounds-points-end c = fits (goal.at.slice_bounds-points-end c).After-unwrap_or-count

pub slice_bounds-draw-end : goal.slice_bounds-draw-end
slice_bounds-draw-end c = sym (length-take-le _ _ (fits (goal.at.slice_bounds-draw-end c).After-unwrap_or-count))

pub returns : goal.returns
returns c =
    rw (c.requires, shown (goal.at.returns c).After-unwrap_or-count, picture-shown c.args.input.now) at c.draw.ensures
