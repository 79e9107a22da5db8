-- `outline::Batch::offer_corners` meets its contract: the four keys are taken one after another, or both rows are missed.
use mathlib.Core.Path.{sym, ◌∙◌}
use lib.ListN.{get_or}
use Rattle.plane.proofs.Bools.{and_parts}
use Rattle.outline.proofs.Gathering.{CornerKeys, corner-keys, takes-corners, corners-missed}
use Rattle.outline.proofs.Batch.offer_corners.Goals as goal
use Rattle.outline.proofs.Batch.offer_corners.Goals.{After-corner_keys}

-- the four keys are those of the corners
keys : (c : After-corner_keys) → let ks = c.corner_keys.result in CornerKeys c.args.r (get_or ks 0 0) (get_or ks 1 0) (get_or ks 2 0) (get_or ks 3 0)
keys c = corner-keys c.args.r c.requires.0 c.requires.1 c.corner_keys.ensures

pub returns-then-misses : goal.returns-then-misses
returns-then-misses c =
    let h = and_parts _ _ c.if-misses.true in
    corners-missed (keys (goal.at.returns-then-misses c).After-corner_keys) (sym c.misses.ensures ∙ h.0) (sym c.misses-2.ensures ∙ h.1)

pub returns : goal.returns
returns c = takes-corners (keys (goal.at.returns c).After-corner_keys) c.offer.ensures c.offer-2.ensures c.offer-3.ensures c.offer-4.ensures
