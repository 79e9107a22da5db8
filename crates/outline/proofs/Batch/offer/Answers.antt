-- `outline::Batch::offer` meets its contract: a key that is missed is left, another is put at the end.
use Prim.Native.Nat.{◌<◌}
use native.Mathlib.Numerals.{add-one}
use native.Mathlib.Omega.{arith}
use mathlib.Core.Path.{sym, ◌∙◌}
use mathlib.Core.List.{[]}
use lib.ListN.{length}
use lib.Seq.{take-suc-set, length-take-le}
use Rattle.outline.specs.Inner.{Takes}
use Rattle.outline.proofs.Gathering.{takes-then, takes-none, takes-missed, takes-put}
use Rattle.outline.proofs.Batch.offer.Goals as goal
use Rattle.outline.proofs.Batch.offer.Goals.{Joined-self-eq-MOST_KEYS, then-self-eq-MOST_KEYS, else-self-eq-MOST_KEYS}

-- room is made, if there was none, and nothing is taken
made : (c : Joined-self-eq-MOST_KEYS) → Takes [] c.args.self.now c.if-self-eq-MOST_KEYS.self × (length c.if-self-eq-MOST_KEYS.self.keys < 1344)
made c = elim c.if-self-eq-MOST_KEYS.branch [ then-self-eq-MOST_KEYS w ↦ rw w.self-is (w.make_room.ensures.takes, w.make_room.ensures.room) | else-self-eq-MOST_KEYS w ↦ rw w.self-is (takes-none, rw (← c.self.view_is) (omega (arith, length-take-le c.self.inside.count c.self.inside.array (omega arith)))) ]

pub returns-then-not-misses : goal.returns-then-not-misses
returns-then-not-misses c =
    let m = made (goal.at.returns-then-not-misses c).Joined-self-eq-MOST_KEYS in
    let i = c.self-2.inside in
    let few : i.count < 1344 = omega (arith, length-take-le i.count i.array (omega arith), rw (← c.self-2.view_is) at m.1) in
    rw (add-one, take-suc-set i.array i.count c.args.k (omega arith)) (takes-then (rw (← c.self-2.view_is) at m.0) (takes-put (rw (← c.self-2.view_is) at (sym c.misses.ensures ∙ c.if-not-misses.true))))

pub returns-else-not-misses : goal.returns-else-not-misses
returns-else-not-misses c =
    let m = made (goal.at.returns-else-not-misses c).Joined-self-eq-MOST_KEYS in
    takes-then m.0 (takes-missed c.args.k c.args.k (omega arith) (omega arith) (sym c.misses.ensures ∙ c.if-not-misses.false))
