-- `drawing::add_points` meets its contract: the radius is that of as many points.
use Rattle.plane.proofs.Arrays.{length-points}
use Rattle.drawing.specs.Picture.{point_part}
use Rattle.drawing.proofs.Pieces.{both}
use Rattle.drawing.proofs.add_points.Goals as goal

pub returns : goal.returns
unfolding point_part
returns c = rw (length-points c.args.points.now) (both (rw c.radius_for.ensures.value at c.add_dots.ensures) c.add.ensures)
