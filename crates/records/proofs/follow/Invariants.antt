-- The invariant of `records::follow`: the row is one of the table, a record comes here to the same row, and the rows go down.
use Rattle.std.proofs.Common.{◌-◌, ◌≡◌, ◌<◌}
use Rattle.records.specs.Format.{follow}
use Rattle.records.proofs.follow.Given as goal

abbrev pub invariant-loop-rows : goal.invariant-loop-rows
invariant-loop-rows l = (0 < l.row) × (l.row < 82) × (follow l.row l.kind ≡ follow l.fn.at l.fn.kind)

abbrev pub decreases-loop-rows : goal.decreases-loop-rows
decreases-loop-rows l = 82 - l.row
