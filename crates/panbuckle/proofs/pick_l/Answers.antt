-- `panbuckle::pick_l` meets its contract.
use mathlib.Core.Path.{ap, ◌∙◌}
use borrow.Author.Rules.{rules}
use borrow.Author.Tests.{tests}
use Rattle.std.proofs.lemmas.Iterator.Consumers.{reduce_from_yields_List, YieldsList-from_filter}
use Rattle.std.proofs.lemmas.Iterator.{YieldsList}
use Rattle.std.specs.Iterator.{YieldsFirst}
use Rattle.std.specs.Iterator.Adapters.{filter_source}
use Rattle.plane.specs.declared.Items.{Items}
use Rattle.plane.specs.declared.Point.{Point}
use Rattle.plane.specs.Words.{eq_z, before, points_of}
use Rattle.rule.specs.Rule.{pick_l, right_of}
use Rattle.checks.proofs.Scans.{points-given}
use Rattle.panbuckle.proofs.Firsts.{least-first}
use Rattle.panbuckle.proofs.pick_l.Goals as goal

pub returns : goal.returns
unfolding pick_l before eq_z
returns c =
    let ps = points_of c.args.points.now in
    let given : YieldsList (YieldsFirst (λ (t : Items Point). points_of t.rest.now)) (λ p. p) (filter_source c.filter.result) ps = points-given c.args.points.now (ap (λ s. s.rest.now) c.filter.ensures.source ∙ c.points_in.ensures) in
    c.unwrap_or.ensures
    ∙ rw (reduce_from_yields_List _ c.filter.result c.min.result c.min.ensures.ran (YieldsList-from_filter _ (right_of c.args.k) given c.filter.ensures.closure (λ x r q k. search (rules, tests)))) (least-first _ (λ p q. search rules) (right_of c.args.k) ps c.args.k)
