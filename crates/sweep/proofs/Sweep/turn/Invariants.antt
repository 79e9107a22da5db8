-- The invariant of `sweep::Sweep::turn`: all passed, but for the first ones, are moved before those ahead.
use mathlib.Core.Path.{◌≡◌}
use Rattle.sweep.specs.Inner.{with_stacks}
use Rattle.sweep.proofs.Turning.{Turning}
use Rattle.sweep.proofs.Sweep.turn.Given as goal

abbrev pub invariant-loop-self : goal.invariant-loop-self
invariant-loop-self l = (l.self ≡ with_stacks l.initial.self l.self.passed l.self.ahead) × Turning l.initial.self l.initial.work l.work l.self.passed l.self.ahead

abbrev pub decreases-loop-self : goal.decreases-loop-self
decreases-loop-self l = l.self.passed
