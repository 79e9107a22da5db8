-- `sweep::sum_all` meets its contract.
use native.Mathlib.Omega.{arith}
use mathlib.Core.Path.{ap, ◌∙◌}
use Rattle.std.specs.Prelude.{Ok}
use Rattle.rule.proofs.Area.{rule-area-most}
use Rattle.sweep.specs.Inner.{start_of, swept, Gives}
use Rattle.sweep.proofs.Making.{starts-summing, still-summed, count-fits, area-within, one-summed, all-counted}
use Rattle.sweep.proofs.sum_all.Goals as goal
use Rattle.sweep.proofs.sum_all.Goals.{After-area_of-area}

pub loop-rect-init : goal.loop-rect-init
loop-rect-init c = starts-summing c.requires (c.new-z.ensures ∙ ap start_of c.room.ensures)

-- a rectangle that is given is the one at its place
given : (a : After-area_of-area) → let r = a.in-Ok-Some.field-0-0 in Gives (swept a.args.points) a.loop-rect.z a.loop-rect.work r.rect r.place a.advance.new.self a.advance.new.work
given a = rw a.in-Ok-Some.field-0-is at a.in-Ok-Some.ensures

pub overflow_add-area : goal.overflow_add-area
overflow_add-area c =
    let s = c.loop-rect.invariant in
    omega (arith, area-within s (given c) c.area_of-area.ensures, rule-area-most _ s.making.underway.ready.points)

pub overflow_add-count : goal.overflow_add-count
overflow_add-count c = omega (arith, count-fits c.loop-rect.invariant)

pub loop-rect-preserved-in-Ok-Some : goal.loop-rect-preserved-in-Ok-Some
loop-rect-preserved-in-Ok-Some c = one-summed c.loop-rect.invariant (given c) c.area_of-area.ensures

pub loop-rect-preserved : goal.loop-rect-preserved
loop-rect-preserved c = still-summed c.loop-rect.invariant (rw c.in-Ok-None.field-0-is at c.in-Ok-None.ensures)

pub returns-in-Err-clause-sums : goal.returns-in-Err-clause-sums
returns-in-Err-clause-sums c = ap Ok (all-counted c.loop-rect.invariant c.in-Err.ensures.2 c.args.edge).1
