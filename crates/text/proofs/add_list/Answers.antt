-- `text::add_list` meets its contract.
use Rattle.std.proofs.Common.{◌++◌, length, length-append, append_assoc, append-nil, ap, sym, ◌∙◌, arith}
use Rattle.plane.specs.Words.{rects_of}
use Rattle.text.specs.Program.{sums_line, rect_line, rect_lines, list_lines}
use Rattle.text.proofs.add_list.Goals as goal

pub add_sums-requires : goal.add_sums-requires
unfolding list_lines
add_sums-requires c = omega (arith, c.requires, length-append (sums_line c.args.sums) (rect_lines (rects_of c.args.rects.now)))

pub loop-r-init : goal.loop-r-init
loop-r-init c = rw (c.into_iter-r-iterator.ensures.into_iter_gives, c.rects_in-r-items.ensures)

pub add_rect-requires : goal.add_rect-requires
unfolding list_lines rect_lines
add_rect-requires c =
    let sums = sums_line c.args.sums in
    let lines = rect_lines (rects_of c.args.rects.now) in
    let left = rect_lines (rects_of c.next.new.self.rest.now) in
    let all = ap length (rw (c.in-Some.ensures.steps, c.add_sums.ensures) at c.loop-r.invariant) in
    omega (arith, c.requires, all, length-append c.loop-r.page (rect_line c.in-Some.r ++ left), length-append (rect_line c.in-Some.r) left, length-append (c.args.page.now ++ sums) lines, length-append c.args.page.now sums, length-append sums lines)

pub loop-r-preserved : goal.loop-r-preserved
unfolding rect_lines
loop-r-preserved c = rw (c.add_rect.ensures, append_assoc) (rw c.in-Some.ensures.steps at c.loop-r.invariant)

pub returns : goal.returns
unfolding list_lines rect_lines
returns c =
    sym (append-nil c.loop-r.page) ∙ rw (c.in-None.ensures.steps.0, c.add_sums.ensures) at c.loop-r.invariant ∙ append_assoc c.args.page.now (sums_line c.args.sums) (rect_lines (rects_of c.args.rects.now))
