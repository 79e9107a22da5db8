-- The invariant of `gdsii::check_shape`: what is left of the path, with what was seen of it, is as open and as slanted as all of it.
use Rattle.gdsii.specs.Inner.{vertices_left}
use Rattle.gdsii.proofs.Shapes.{Along}
use Rattle.gdsii.proofs.check_shape.Given as goal

abbrev pub invariant-loop-q : goal.invariant-loop-q
invariant-loop-q l = Along l.first (vertices_left l.initial.q-iterator) l.last (vertices_left l.q-iterator) l.slanted
