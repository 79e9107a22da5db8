-- The invariant of `gdsii::copy`: the first i numbers are copied, and nothing else has changed.
use mathlib.Core.Path.{◌≡◌}
use lib.Seq.{paste}
use Rattle.gdsii.proofs.copy.Given as goal

abbrev pub invariant-loop-i : goal.invariant-loop-i
invariant-loop-i l = l.out ≡ paste l.initial.out 0 l.numbers l.i
