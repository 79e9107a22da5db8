-- `gdsii::last_vertical` meets its contract.
use mathlib.Core.Path.{sym, ap, ◌∙◌}
use mathlib.Core.Bool.{false}
use Rattle.boundaries.specs.Inner.{last_vertical}
use Rattle.boundaries.proofs.Directions.{last_step, last_none}
use Rattle.gdsii.specs.Inner.{vertices_left}
use Rattle.gdsii.proofs.last_vertical.Goals as goal

pub loop-q-preserved : goal.loop-q-preserved
loop-q-preserved c = rw c.turned-d.ensures (last_step c.loop-q.d c.loop-q.p _ c.in-Some.q _ c.in-Some.ensures.steps ∙ c.loop-q.invariant)

pub returns : goal.returns
returns c =
    let l = c.loop-q in
    sym (ap (last_vertical l.d l.p) c.in-None.ensures.steps.0 ∙ last_none l.d l.p) ∙ l.invariant ∙ ap (λ it. last_vertical false c.args.first (vertices_left it)) c.into_iter-q-iterator.ensures.into_iter_gives
