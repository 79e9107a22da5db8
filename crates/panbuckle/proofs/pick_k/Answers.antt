-- `panbuckle::pick_k` meets its contract.
use mathlib.Core.Path.{◌∙◌}
use borrow.Author.Rules.{rules}
use Rattle.std.proofs.lemmas.Iterator.Consumers.{reduce_from_yields_List}
use Rattle.plane.specs.Words.{origin, eq_z, before, points_of}
use Rattle.rule.specs.Rule.{pick_k}
use Rattle.checks.proofs.Scans.{points-given}
use Rattle.panbuckle.proofs.Firsts.{least-of-all, or-default}
use Rattle.panbuckle.proofs.pick_k.Goals as goal

pub returns : goal.returns
unfolding pick_k before eq_z
returns c =
    let ps = points_of c.args.points.now in
    or-default c.min.result {d = origin} (λ p d. search rules) c.unwrap_or_default.ensures
    ∙ rw (reduce_from_yields_List _ c.points_in.result c.min.result c.min.ensures.ran (points-given c.args.points.now c.points_in.ensures)) (least-of-all _ (λ p q. search rules) ps origin)
