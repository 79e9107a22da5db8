-- `drawing::stands` meets its contract: each listing of the point turns the parity.
use mathlib.Core.Path.{refl, ◌∙◌}
use mathlib.Core.Bool.{xor, false}
use borrow.Author.Rules.{rules}
use Rattle.std.proofs.lemmas.Iterator.Consumers.{YieldsList-from_first, fold_from_yields_List}
use Rattle.plane.specs.declared.Point.{Point}
use Rattle.plane.specs.Words.{same, points_of}
use Rattle.plane.specs.declared.Items.{Items}
use Rattle.drawing.proofs.Planning.{odd-fold}
use Rattle.drawing.proofs.stands.Goals as goal

pub returns : goal.returns
unfolding xor
returns c =
    let ps = points_of c.args.points.now in
    fold_from_yields_List _ (λ odd q. xor odd (same c.args.p q)) false _ c.fold.ensures.ran (YieldsList-from_first (λ p. p) (λ (s : Items Point). points_of s.rest.now) ps (rw c.points_in.ensures refl)) (λ odd p t q k. search rules) ∙ odd-fold (same c.args.p) ps
