-- `outline::spans_range` meets its contract: in 64 bits nothing wraps.
use mathlib.Core.Path.{◌≡◌, ap, ◌∙◌}
use borrow.Author.Rules.{rules}
use Rattle.plane.specs.Words.{in_range}
use Rattle.plane.proofs.Bits.{widened, sum-widened}
use Rattle.outline.proofs.Looking.{contains-is}
use Rattle.outline.proofs.spans_range.Goals as goal
use Rattle.outline.proofs.spans_range.Goals.{After-contains}

-- the first test is of the coordinate
near_tested : (c : After-contains) → c.contains.result ≡ in_range c.args.near
near_tested c = rw c.contains.ensures.value (contains-is c.new-range.result _ (search rules) (search rules) (search rules) ∙ ap in_range (search rules))

pub returns-then-contains : goal.returns-then-contains
returns-then-contains c =
    let first = near_tested (goal.at.returns-then-contains c).After-contains in
    rw (c.contains-then-contains.ensures.value, ← first, c.if-contains.true) (contains-is c.new-range.result _ (search rules) (search rules) (search rules) ∙ ap in_range (search (rules, widened, sum-widened)))

pub returns-else-contains : goal.returns-else-contains
returns-else-contains c =
    let first = near_tested (goal.at.returns-else-contains c).After-contains in
    rw (← first, c.if-contains.false)
