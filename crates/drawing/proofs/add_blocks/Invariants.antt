-- The invariant of `drawing::add_blocks`: once the blocks of the rectangles that are left are drawn, all are.
use Prim.Native.Nat.{◌+◌, ◌^◌, ◌<◌}
use lib.ListN.{length}
use Rattle.plane.specs.Words.{rects_of}
use Rattle.drawing.specs.declared.Paper.{Paper}
use Rattle.drawing.specs.Inner.{Draws}
use Rattle.drawing.specs.Picture.{blocks}
use Rattle.drawing.proofs.add_blocks.Given as goal

abbrev pub invariant-loop-i : goal.invariant-loop-i
invariant-loop-i l =
    let number = l.i-iterator.count in
    let left = rects_of l.i-iterator.iter.rest.now in
    (number + length left < 2 ^ 64) × ((end : Paper) → Draws l.page (blocks l.view number left) end → Draws l.initial.page (blocks l.view 0 (rects_of l.list)) end)
