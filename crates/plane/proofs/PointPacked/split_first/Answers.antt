-- `plane::PointPacked::split_first` meets its contract.
use Rattle.std.proofs.Common.{rules}
use Rattle.std.proofs.lemmas.List.{take_rest}
use Rattle.plane.proofs.Arrays.{points-none, points-first}
use Rattle.plane.proofs.PointPacked.split_first.Goals as goal

pub returns-in_default-clause-items : goal.returns-in_default-clause-items
returns-in_default-clause-items c = points-none _ c.in_default.len_below

-- it stands first, so that a body that leaves other numbers with the same items is refused here
pub returns-clause-rest : goal.returns-clause-rest
returns-clause-rest c = rw take_rest

pub returns-clause-items : goal.returns-clause-items
returns-clause-items c = rw take_rest (search (rules, points-first))
