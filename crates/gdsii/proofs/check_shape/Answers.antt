-- `gdsii::check_shape` meets its contract.
use mathlib.Core.Path.{◌≡◌, sym, ap, ◌∙◌}
use mathlib.Core.Bool.{cond}
use mathlib.Core.List.{◌∷◌}
use Rattle.std.specs.Prelude.{Ok, Err}
use Rattle.entry.specs.declared.Reason.TheVariants.{Open, Slanted}
use Rattle.boundaries.specs.Boundary.{is_open}
use Rattle.gdsii.specs.Inner.{vertices_left, shape_of}
use Rattle.gdsii.proofs.Shapes.{equal-points, along-next, along-end}
use Rattle.gdsii.proofs.check_shape.Goals as goal
use Rattle.gdsii.proofs.check_shape.Goals.{After-ne}

pub returns-in_default : goal.returns-in_default
unfolding is_open
returns-in_default c = rw c.in_default.ensures.steps.0

pub loop-q-preserved : goal.loop-q-preserved
loop-q-preserved c = rw c.is_slanted-slanted.ensures (along-next c.loop-q.invariant c.in-Some-q.q _ c.in-Some-q.ensures.steps)

-- what the path is
ended : (c : After-ne) → shape_of (vertices_left c.args.vertices) ≡ cond c.ne.result (Err Open) (cond c.loop-q.slanted (Err Slanted) (Ok (tt {0})))
ended c =
    let all = c.in-Some.ensures.steps ∙ ap (λ it. c.in-Some.first ∷ vertices_left it) (sym c.into_iter-q-iterator.ensures.into_iter_gives) in
    rw (c.ne.ensures, equal-points) (ap shape_of all ∙ along-end c.loop-q.invariant c.in-None.ensures.steps.0)

pub returns-then-ne : goal.returns-then-ne
returns-then-ne c = sym (ended (goal.at.returns-then-ne c).After-ne ∙ rw c.if-ne.true)

pub returns-then-slanted : goal.returns-then-slanted
returns-then-slanted c = sym (ended (goal.at.returns-then-slanted c).After-ne ∙ rw (c.if-ne.false, c.if-slanted.true))

pub returns : goal.returns
returns c = sym (ended (goal.at.returns c).After-ne ∙ rw (c.if-ne.false, c.if-slanted.false))
