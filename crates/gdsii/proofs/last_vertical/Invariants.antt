-- The invariant of `gdsii::last_vertical`: what the rest says, after what was seen, is what all of it says.
use mathlib.Core.Path.{◌≡◌}
use mathlib.Core.Bool.{false}
use Rattle.boundaries.specs.Inner.{last_vertical}
use Rattle.gdsii.specs.Inner.{vertices_left}
use Rattle.gdsii.proofs.last_vertical.Given as goal

abbrev pub invariant-loop-q : goal.invariant-loop-q
invariant-loop-q l = last_vertical l.d l.p (vertices_left l.q-iterator) ≡ last_vertical false l.fn.first (vertices_left l.initial.q-iterator)
