-- The invariant of `drawing::add_dots`: once the dots of the points that are left are drawn, all are.
use Rattle.plane.specs.Words.{points_of}
use Rattle.drawing.specs.declared.Paper.{Paper}
use Rattle.drawing.specs.Inner.{Draws}
use Rattle.drawing.specs.Picture.{dots}
use Rattle.drawing.proofs.add_dots.Given as goal

abbrev pub invariant-loop-p : goal.invariant-loop-p
invariant-loop-p l =
    let all = points_of l.points in
    (end : Paper) → Draws l.page (dots l.view l.radius all (points_of l.p-iterator.rest.now)) end → Draws l.initial.page (dots l.view l.radius all all) end
