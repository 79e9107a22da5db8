-- `drawing::add_blocks` meets its contract.
use native.Mathlib.Omega.{arith}
use mathlib.Core.Path.{ap}
use lib.ListN.{length}
use Rattle.std.proofs.Common.{inl}
use Rattle.plane.proofs.Arrays.{length-rects}
use Rattle.drawing.proofs.Pieces.{both, draws-nothing}
use Rattle.drawing.proofs.Parts.{blocks-none, blocks-first}
use Rattle.drawing.proofs.add_blocks.Goals as goal

pub loop-i-init-derived : goal.loop-i-init-derived
loop-i-init-derived c =
    let e = c.enumerate-i-items.ensures in
    rw (c.into_iter-i-iterator.ensures.into_iter_gives, e.source, e.count, c.rects_in.ensures) ((tt, tt, inl (omega (arith, length-rects c.args.list.now))), tt)

pub loop-i-init : goal.loop-i-init
loop-i-init c =
    let e = c.enumerate-i-items.ensures in
    rw (c.into_iter-i-iterator.ensures.into_iter_gives, e.source, e.count, c.rects_in.ensures) (omega (arith, length-rects c.args.list.now), λ end d. d)

pub loop-i-preserved : goal.loop-i-preserved
loop-i-preserved c =
    let s = c.in-Some.ensures.steps in
    let first = blocks-first c.args.view c.in-Some.i s.0 in
    rw s.2 (omega (arith, c.loop-i.invariant.0, ap length s.0), λ end rest. c.loop-i.invariant.1 end (rw (← s.1, first) (both c.add_block.ensures (rw (← s.1) at rest))))

pub returns : goal.returns
returns c = c.loop-i.invariant.1 _ (rw (blocks-none c.args.view c.loop-i.i-iterator.count c.in-None.ensures.steps.0.0) (draws-nothing c.loop-i.page))
