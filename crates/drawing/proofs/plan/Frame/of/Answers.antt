-- `drawing::plan::Frame::of` meets its contract: the frame of the first point is widened by the others.
use mathlib.Core.Path.{refl, ◌∙◌}
use borrow.Author.Rules.{rules}
use Rattle.std.proofs.lemmas.Iterator.Consumers.{YieldsList-from_first, fold_from_yields_List}
use Rattle.plane.specs.declared.Point.{Point}
use Rattle.plane.specs.Words.{points_of}
use Rattle.plane.specs.declared.Items.{Items}
use Rattle.drawing.specs.Plan.{widened}
use Rattle.drawing.proofs.Planning.{frame-none, frame-fold}
use Rattle.drawing.proofs.plan.Frame.of.Goals as goal

pub returns-in_default : goal.returns-in_default
returns-in_default c = frame-none _ _ (rw c.points_in-points.ensures at c.in_default.ensures.steps.0) c.default.ensures

pub returns : goal.returns
returns c =
    let first = c.in-Some.first in
    let rest = points_of c.next.new.self.rest.now in
    let folded = fold_from_yields_List _ widened _ _ c.fold.ensures.ran (YieldsList-from_first (λ p. p) (λ (s : Items Point). points_of s.rest.now) rest refl) (λ f p g q k. search rules) in
    folded ∙ rw c.about.ensures (frame-fold _ first rest (rw c.points_in-points.ensures at c.in-Some.ensures.steps))
