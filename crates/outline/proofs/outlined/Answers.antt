-- `outline::outlined` meets its contract: the first run counts, the second writes; the first is left out where every corner has room.
use Prim.Native.Nat.{◌/◌, ◌≤◌}
use native.Mathlib.Omega.{arith}
use mathlib.Core.Path.{refl}
use lib.ListN.{length}
use borrow.Author.Rules.{rules}
use Rattle.plane.specs.Words.{rects_of}
use Rattle.plane.proofs.Arrays.{length-rects}
use Rattle.entry.proofs.Entry.{refused-done, accepted-done}
use Rattle.rule.specs.Back.{back_list}
use Rattle.rule.proofs.Backward.{back-length}
use Rattle.rule.proofs.BackwardCall.{backward-accepted, backward-lacks-room}
use Rattle.outline.proofs.outlined.Goals as goal
use Rattle.outline.proofs.outlined.Goals.{Joined-points-rects, else-points-rects, then-points-rects+else-points-needed}

pub returns-then-points-needed : goal.returns-then-points-needed
returns-then-points-needed c =
    let needed = c.list_points-needed.ensures.value in
    let v = (backward-lacks-room c.args.rects.now (length c.args.points.now) c.list_points-needed.result).1 (rw needed c.requires, needed, search rules) in
    rw c.at.ensures (refused-done refl v)

-- all points have room where they are to be written
ready : (c : Joined-points-rects) → let s = c.args in length (back_list (rects_of s.rects.now)) ≤ length s.points.now / 2
ready c =
    let s = c.args in
    elim c.if-points-rects.branch [
      | then-points-rects+else-points-needed w ↦ omega (arith, w.list_points-needed.ensures.value, w.if-points-needed.false)
      | else-points-rects w ↦ omega (arith, w.if-points-rects.false, back-length (rects_of s.rects.now), length-rects s.rects.now)
    ]

pub returns : goal.returns
returns c =
    let h = ready (goal.at.returns c).Joined-points-rects in
    let v = (backward-accepted c.args.rects.now (length c.args.points.now)).1 (record { even = c.requires.even; few = c.requires.few; rects = c.requires.rects; room = h }) in
    accepted-done (rw c.list_points.ensures.value refl) (c.list_points.ensures.points_after (omega arith)) v
