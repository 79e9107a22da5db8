-- `panbuckle::OddRows::gather` meets its contract.
use mathlib.Core.Path.{◌≡◌, refl, sym, ap, ◌∙◌}
use mathlib.Core.List.{[], ◌∷◌, append_assoc, append-nil}
use Rattle.plane.specs.Words.{points_of}
use Rattle.plane.proofs.Order.{order}
use Rattle.panbuckle.proofs.StopRow.{none_beside, passed_apart, passed-beside}
use Rattle.panbuckle.proofs.OddRows.gather.Goals as goal

pub loop-p-init : goal.loop-p-init
loop-p-init c =
    let r = c.args in
    let h = c.requires in
    (record { above = h; not-above = omega order }, none_beside r.k r.low r.m, rw (c.into_iter-p-iterator.ensures.into_iter_gives, c.points_in-p-items.ensures) refl)

pub loop-p-preserved : goal.loop-p-preserved
loop-p-preserved c =
    let i = c.loop-p.invariant in
    let apart = rw (ap (λ r. r.end) c.self-in-loop-p.view_is) at (sym c.is_beside.ensures ∙ c.if-is_beside.false) in
    (i.0, passed_apart c.in-Some.p i.1 apart, append_assoc c.loop-p.yielded (c.in-Some.p ∷ []) _ ∙ (rw ((c.in-Some.ensures).steps) at i.2))

pub loop-p-preserved-then-is_beside : goal.loop-p-preserved-then-is_beside
loop-p-preserved-then-is_beside c =
    let i = c.loop-p.invariant in
    let beside = rw (ap (λ r. r.end) c.self-in-loop-p.view_is) at (sym c.is_beside.ensures ∙ c.if-is_beside.true) in
    let e = passed-beside c.in-Some.p i.1 i.0 beside (rw c.corner.ensures at c.toggle.ensures) in
    (e.0, e.1, append_assoc c.loop-p.yielded (c.in-Some.p ∷ []) _ ∙ (rw ((c.in-Some.ensures).steps) at i.2))

pub returns : goal.returns
returns c =
    let i = c.loop-p.invariant in
    let all : c.loop-p.yielded ≡ points_of c.args.points.now = sym (append-nil c.loop-p.yielded) ∙ (rw ((c.in-None.ensures).steps.0) at i.2) in
    record { between = i.0; odd_beside = rw (← all) i.1 }
