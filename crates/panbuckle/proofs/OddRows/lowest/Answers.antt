-- `panbuckle::OddRows::lowest` meets its contract.
use borrow.Author.Rules.{rules}
use Rattle.std.proofs.lemmas.Iterator.Consumers.{reduce_from_yields_List}
use Rattle.plane.specs.Words.{eq_z, before}
use Rattle.plane.proofs.Arrays.{points-take}
use Rattle.checks.proofs.Scans.{points-given}
use Rattle.panbuckle.specs.Inner.{held}
use Rattle.panbuckle.proofs.Firsts.{least-is-first}
use Rattle.panbuckle.proofs.OddRows.lowest.Goals as goal

pub returns : goal.returns
unfolding before eq_z
returns c =
    let i = c.self.inside in
    rw (← c.self.view_is) (least-is-first _ (λ p q. search rules) (held i.count i.array) (reduce_from_yields_List _ c.points_in.result c.min.result c.min.ensures.ran (rw points-take at (points-given {s = c.points_in.result} _ c.points_in.ensures))))
