-- The invariant of `reading::check_lines`: these bytes are left after so many lines, and none of them is bad.
use lib.ListN.{length}
use Rattle.entry.proofs.Search.{NoneBelow}
use Rattle.reading.specs.Lines.{lines_of, line_at, is_bad}
use Rattle.reading.proofs.Lines.{Reached}
use Rattle.reading.proofs.check_lines.Given as goal

abbrev pub invariant-loop-rest : goal.invariant-loop-rest
invariant-loop-rest l = Reached l.text l.rest l.count × NoneBelow l.count (λ i. is_bad (line_at (lines_of l.text) i))

abbrev pub decreases-loop-rest : goal.decreases-loop-rest
decreases-loop-rest l = length l.rest
