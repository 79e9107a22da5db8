-- The invariant of `gdsii::Reader::next_boundary`: the walk from the cursor is the walk from the first.
use Prim.Native.Nat.{◌-◌, ◌≤◌}
use mathlib.Core.Path.{◌≡◌}
use lib.ListN.{length}
use Rattle.gdsii.specs.Inner.{walk_from}
use Rattle.gdsii.proofs.Reader.next_boundary.Given as goal

abbrev pub invariant-loop-c : goal.invariant-loop-c
invariant-loop-c l = (l.initial.c.at ≤ l.c.at) × (l.c.at ≤ length l.self.bytes.now) × (walk_from l.self l.c ≡ walk_from l.self l.initial.c)

abbrev pub decreases-loop-c : goal.decreases-loop-c
decreases-loop-c l = length l.self.bytes.now - l.c.at
