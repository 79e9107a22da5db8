-- `outline::Batch::gather` meets its contract.
use mathlib.Core.Path.{refl, ◌∙◌}
use mathlib.Core.List.Memᴰ.{head}
use mathlib.Core.List.Memᴰ.{tail}
use Rattle.rule.specs.Back.{corners}
use Rattle.outline.proofs.Batches.{gathers-none, gathers-next, gathered}
use Rattle.outline.proofs.Batch.gather.Goals as goal

pub loop-r-init : goal.loop-r-init
loop-r-init c = rw (c.into_iter-r-iterator.ensures.into_iter_gives, c.rects_in-r-items.ensures) (c.requires.accepted_rects, refl, gathers-none c.args.start c.args.end _ c.requires.start_lt_end)

pub offer_corners-requires : goal.offer_corners-requires
offer_corners-requires c =
    let rest = c.loop-r.invariant.0 in
    let first = (c.in-Some.ensures).steps in
    (rest.solid c.in-Some.r (rw first (head refl)), rest.range c.in-Some.r (rw first (head refl)))

pub loop-r-preserved : goal.loop-r-preserved
loop-r-preserved c =
    let i = c.loop-r.invariant in
    let first = (c.in-Some.ensures).steps in
    let n = gathers-next first i.1 c.offer_corners.ensures i.2 in
    (record { solid = λ r m. i.0.solid r (rw first (tail m)); range = λ r m. i.0.range r (rw first (tail m)) }, n.0, n.1)

pub returns : goal.returns
unfolding corners
returns c =
    let i = c.loop-r.invariant in
    let kept = c.keep_odd.ensures in
    gathered c.requires.accepted_rects (kept.start ∙ i.1) (rw (kept.end) (rw ((c.in-None.ensures).steps.0) at i.2)) kept.odd_ones
