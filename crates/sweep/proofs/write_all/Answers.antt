-- `sweep::write_all` meets its contract.
use native.Mathlib.Omega.{arith}
use mathlib.Core.Path.{refl, ap, ◌∙◌}
use Rattle.plane.proofs.Bits.{back}
use Rattle.sweep.specs.Inner.{start_of}
use Rattle.sweep.proofs.Making.{starts-writing, still-put, one-put, all-written}
use Rattle.sweep.proofs.write_all.Goals as goal

pub loop-rect-init : goal.loop-rect-init
loop-rect-init c = starts-writing c.requires.ready c.requires.has_room (c.new-z.ensures ∙ ap start_of c.room.ensures)

pub loop-rect-preserved-in-Ok-Some : goal.loop-rect-preserved-in-Ok-Some
loop-rect-preserved-in-Ok-Some c =
    let r = c.in-Ok-Some.field-0-0.rect in
    one-put c.loop-rect.invariant (rw c.in-Ok-Some.field-0-is at c.in-Ok-Some.ensures) (c.put_four.ensures ∙ rw (back r.x (omega arith), back r.y (omega arith), back r.w (omega arith), back r.h (omega arith)) refl)

pub loop-rect-preserved : goal.loop-rect-preserved
loop-rect-preserved c = still-put c.loop-rect.invariant (rw c.in-Ok-None.field-0-is at c.in-Ok-None.ensures)

pub returns-in-Err-clause-output : goal.returns-in-Err-clause-output
returns-in-Err-clause-output c = (all-written c.loop-rect.invariant c.in-Err.ensures.2).1
