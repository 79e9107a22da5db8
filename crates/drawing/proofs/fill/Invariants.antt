-- The invariant of `drawing::fill`: once the rest of the template is drawn, with the numbers that are left, the whole is.
use Rattle.drawing.specs.declared.Paper.{Paper}
use lib.ListN.{drop}
use Rattle.drawing.specs.Inner.{Draws}
use Rattle.drawing.specs.Picture.{filled}
use Rattle.drawing.proofs.fill.Given as goal

abbrev pub invariant-loop-b : goal.invariant-loop-b
invariant-loop-b l = (end : Paper) → Draws l.page (filled (drop l.b-index l.template) l.numbers.rest.now) end → Draws l.initial.page (filled l.template l.numbers-2) end
