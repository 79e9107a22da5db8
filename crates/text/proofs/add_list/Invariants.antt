-- The invariant of `text::add_list`: what is written, and the lines of the rectangles that are left, are the sums' line and all of them.
use Rattle.std.proofs.Common.{◌≡◌, ◌++◌}
use Rattle.plane.specs.Words.{rects_of}
use Rattle.text.specs.Program.{rect_lines}
use Rattle.text.proofs.add_list.Given as goal

abbrev pub invariant-loop-r : goal.invariant-loop-r
invariant-loop-r l = l.page ++ rect_lines (rects_of l.r-iterator.rest.now) ≡ l.initial.page ++ rect_lines (rects_of l.rects)
