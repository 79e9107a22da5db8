-- `drawing::add_dots` meets its contract.
use Rattle.plane.specs.Words.{points_of}
use Rattle.drawing.proofs.Pieces.{both, draws-nothing}
use Rattle.drawing.proofs.Parts.{dots-none, dots-first}
use Rattle.drawing.proofs.add_dots.Goals as goal

pub loop-p-init : goal.loop-p-init
loop-p-init c = rw (c.into_iter-p-iterator.ensures.into_iter_gives, c.points_in-p-items.ensures) (λ end d. d)

pub loop-p-preserved : goal.loop-p-preserved
loop-p-preserved c =
    let first = dots-first c.args.view c.args.radius (points_of c.args.points.now) c.in-Some.ensures.steps in
    λ end rest. c.loop-p.invariant end (rw first (both (rw c.stands.ensures at c.add_dot.ensures) rest))

pub returns : goal.returns
returns c = c.loop-p.invariant _ (rw (dots-none c.args.view c.args.radius (points_of c.args.points.now) c.in-None.ensures.steps.0) (draws-nothing c.loop-p.page))
