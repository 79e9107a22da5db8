-- The invariant of `outline::Batch::gather`: the batch gathers all corners, with those of the rectangles that are left to come.
use mathlib.Core.Path.{◌≡◌}
use Rattle.plane.specs.Words.{rects_of}
use Rattle.rule.specs.Back.{corners}
use Rattle.rule.specs.Rows.{AcceptedRects}
use Rattle.outline.specs.Inner.{keys_of, Gathers}
use Rattle.outline.proofs.Batch.gather.Given as goal

abbrev pub invariant-loop-r : goal.invariant-loop-r
invariant-loop-r l =
    let rest = rects_of l.r-iterator.rest.now in
    AcceptedRects rest × (l.self.start ≡ l.start) × Gathers l.start l.end l.self.end (keys_of (corners (rects_of l.rects))) (keys_of (corners rest)) l.self.keys
