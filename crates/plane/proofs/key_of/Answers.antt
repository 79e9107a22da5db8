-- `plane::key_of` meets its contract.
use native.Mathlib.Omega.{arith}
use mathlib.Core.Path.{◌≡◌, ap, ◌∙◌}
use Rattle.plane.specs.Keys.{raised, key_of}
use Rattle.plane.proofs.Bits.{back}
use Rattle.plane.proofs.key_of.Goals as goal
use Rattle.plane.proofs.key_of.Goals.{After-raise, After-raise-2}

-- the rows below
rows : (c : After-raise) → c.raise.result ≡ raised c.args.p.y
rows c = c.raise.ensures.value ∙ ap raised (back c.args.p.y (omega arith))

-- the columns to the left
columns : (c : After-raise-2) → c.raise-2.result ≡ raised c.args.p.x
columns c = c.raise-2.ensures.value ∙ ap raised (back c.args.p.x (omega arith))

pub returns : goal.returns
unfolding key_of
returns c = rw (rows (goal.at.returns c).After-raise, columns (goal.at.returns c).After-raise-2)
