-- `ends::read_input` stays inside its array, ends, and gives how many of the array's bytes were read.
use Rattle.std.proofs.Common.{length, ◌-◌, ◌≤◌}
use Rattle.ends.proofs.read_input.Given as goal

abbrev pub invariant-loop-length : goal.invariant-loop-length
invariant-loop-length l = l.length ≤ length l.bytes

abbrev pub decreases-loop-length : goal.decreases-loop-length
decreases-loop-length l = length l.initial.bytes - l.length
