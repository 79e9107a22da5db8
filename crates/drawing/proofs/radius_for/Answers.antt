-- `drawing::radius_for` meets its contract.
use mathlib.Core.Path.{refl}
use Rattle.drawing.specs.Plan.{dot_radius}
use Rattle.drawing.proofs.Bounds.{radius-most}
use Rattle.drawing.proofs.radius_for.Goals as goal

pub returns : goal.returns
unfolding dot_radius
returns c = record { value = refl; upper_bound = radius-most _ }
