-- `outline::Batch::make_room` meets its contract: few odd ones are kept, and too many are cut.
use native.Mathlib.Omega.{arith}
use mathlib.Core.Path.{ap, ◌∙◌}
use lib.ListN.{length-take}
use lib.Seq.{take-take, get_or-take, length-take-le}
use Rattle.outline.proofs.Gathering.{takes-cut}
use Rattle.outline.proofs.Batch.make_room.Goals as goal

pub returns-then-self-gt-KEPT_KEYS-clause-room : goal.returns-then-self-gt-KEPT_KEYS-clause-room
returns-then-self-gt-KEPT_KEYS-clause-room c = omega (arith, length-take 672 c.self.inside.array)

pub returns-then-self-gt-KEPT_KEYS-clause-takes : goal.returns-then-self-gt-KEPT_KEYS-clause-takes
returns-then-self-gt-KEPT_KEYS-clause-takes c =
    let count = c.self.inside.count in
    let array = c.self.inside.array in
    let odd = c.keep_odd.ensures in
    rw (← get_or-take count array 672 0 (omega arith), ← take-take 672 count array (omega arith)) (takes-cut 671 (omega (arith, length-take-le count array (omega arith))) (ap (λ k. k.start) c.self.view_is ∙ odd.start) (ap (λ k. k.end) c.self.view_is ∙ odd.end) (rw (ap (λ k. k.keys) c.self.view_is) odd.odd_ones))
