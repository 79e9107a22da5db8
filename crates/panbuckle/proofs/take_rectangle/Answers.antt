-- `panbuckle::take_rectangle` meets its contract: K and L begin the step.
use Rattle.plane.proofs.Arrays.{points-take}
use Rattle.panbuckle.specs.Inner.{held, Begun}
use Rattle.panbuckle.proofs.Taking.{begun, begun-fits, begun-done}
use Rattle.panbuckle.proofs.take_rectangle.Goals as goal
use Rattle.panbuckle.proofs.take_rectangle.Goals.{After-pick_l-l}

-- the points found are K and L
begins : (c : After-pick_l-l) → Begun (held c.args.n c.args.work.now) c.pick_k-k.result c.pick_l-l.result
begins c = begun c.requires (rw points-take at c.pick_k-k.ensures) (rw points-take at c.pick_l-l.ensures)

pub stop_row-m-requires : goal.stop_row-m-requires
stop_row-m-requires c = rw points-take (begins (goal.at.stop_row-m-requires c).After-pick_l-l)

pub reached-rect-requires : goal.reached-rect-requires
reached-rect-requires c = rw (c.stop_row-m.ensures, points-take) (begun-fits (begins (goal.at.reached-rect-requires c).After-pick_l-l))

pub toggle_four-count-requires-clause-begun : goal.toggle_four-count-requires-clause-begun
toggle_four-count-requires-clause-begun c = begins (goal.at.toggle_four-count-requires-clause-begun c).After-pick_l-l

pub returns : goal.returns
returns c =
    rw (c.reached-rect.ensures, c.toggle_four-count.ensures.value, c.toggle_four-count.ensures.a_after, c.stop_row-m.ensures, points-take) (begun-done c.requires (begins (goal.at.returns c).After-pick_l-l))
