-- `outline::list_points` meets its contract.
use Prim.Native.Nat.{◌+◌, ◌*◌, ◌≤◌}
use native.Mathlib.Omega.{arith}
use mathlib.Core.Path.{◌≡◌, refl, ap, ◌∙◌}
use mathlib.Core.List.{List}
use lib.ListN.{length, length-take, length-drop}
use borrow.Author.Rules.{rules}
use Rattle.plane.specs.declared.Point.{Point}
use Rattle.plane.specs.Lists.{at_start}
use Rattle.plane.specs.Words.{rects_of, flat_points}
use Rattle.plane.proofs.Arrays.{length-rects}
use Rattle.rule.specs.Back.{back_list}
use Rattle.rule.proofs.Backward.{back-length}
use Rattle.outline.specs.declared.TheConstants.{START, END}
use Rattle.outline.specs.Inner.{batch_of}
use Rattle.outline.proofs.Batches.{batch-few, batch-none, answer-all, batch-listed, batch-written}
use Rattle.outline.proofs.list_points.Goals as goal
use Rattle.outline.proofs.list_points.Goals.{After-gather, At-loop-start, Joined-listed-points, then-listed-points, else-listed-points}

pub loop-start-init : goal.loop-start-init
unfolding flat_points
loop-start-init c =
    let s = c.args in
    let e = batch-none START (back_list (rects_of s.rects.now)) in
    record {
      from = omega arith;
      started = omega arith;
      asked = omega arith;
      ahead = λ h. omega arith;
      points-length = refl;
      many = rw e;
      wrote = rw e (λ _. refl);
    }

pub gather-requires : goal.gather-requires
gather-requires c = record { accepted_rects = c.requires; start_lt_end = c.loop-start.invariant.ahead (search rules) }

-- in a turn, where the batch is gathered: the loop's place
abbrev loop-of : After-gather → At-loop-start
loop-of g = (goal.at-After-gather g).At-loop-start

-- the answer, and its points below the batch's end
abbrev answer : After-gather → List Point
answer g = back_list (rects_of (loop-of g).args.rects.now)

abbrev below : After-gather → List Point
below g = batch_of START g.gather.new.self.end (answer g)

-- with the batch they are listed
listed-on : (g : After-gather) → (loop-of g).loop-start.listed + length g.gather.new.self.keys ≡ length (below g)
listed-on g = let l = loop-of g in batch-listed l.requires l.loop-start.invariant.from g.gather.ensures l.loop-start.invariant.many

-- they are no more than the answer's
listed-most : (g : After-gather) → (loop-of g).loop-start.listed + length g.gather.new.self.keys ≤ length (answer g)
listed-most g = omega (arith, listed-on g, batch-few START g.gather.new.self.end (answer g))

-- so their number fits
listed-fits : (g : After-gather) → let l = loop-of g in l.loop-start.listed + length g.gather.new.self.keys ≤ length l.args.rects.now
listed-fits g = let rects = (loop-of g).args.rects.now in omega (arith, listed-most g, back-length (rects_of rects), length-rects rects)

pub overflow_mul-from : goal.overflow_mul-from
overflow_mul-from c = omega (arith, listed-fits (goal.at.overflow_mul-from c).After-gather)

pub overflow_add-listed : goal.overflow_add-listed
overflow_add-listed c = rw c.keys-keys.ensures (omega (arith, listed-fits (goal.at.overflow_add-listed c).After-gather))

pub overflow_mul-listed : goal.overflow_mul-listed
overflow_mul-listed c = rw c.keys-keys.ensures (omega (arith, listed-fits (goal.at.overflow_mul-listed c).After-gather))

-- the keys are the batch's, no more
pub put_points-requires : goal.put_points-requires
put_points-requires c = simp (length-take, length-drop) (omega arith)

-- the points of the batch are written after those before, if all have room
written : (c : Joined-listed-points) → let g = (goal.at-Joined-listed-points c).After-gather in let points = (loop-of g).args.points.now in 2 * length (answer g) ≤ length points → c.if-listed-points.points ≡ at_start (flat_points (below g)) points
written c h =
    let g = (goal.at-Joined-listed-points c).After-gather in
    let l = loop-of g in
    let i = l.loop-start.invariant in
    elim c.if-listed-points.branch [
      | then-listed-points w ↦ rw w.points-is (batch-written l.requires i.from g.gather.ensures l.args.points.now i.many (i.wrote h) (rw c.keys-keys.ensures at w.put_points.ensures))
      | else-listed-points w ↦ absurd (omega (arith, listed-most g, (rw c.keys-keys.ensures at w.if-listed-points.false)))
    ]

pub loop-start-preserved : goal.loop-start-preserved
loop-start-preserved c =
    let g = (goal.at.loop-start-preserved c).After-gather in
    let i = (loop-of g).loop-start.invariant in
    rw (ap (λ k. k.end) c.batch.view_is, c.keys-keys.ensures) (record {
      from = omega (arith, i.from, g.gather.ensures.beyond);
      started = search rules;
      asked = search rules;
      ahead = c.next_end-end.ensures.1;
      points-length = c.if-listed-points.auto.points ∙ i.points-length;
      many = listed-on g;
      wrote = written (goal.at.loop-start-preserved c).Joined-listed-points;
    })

pub returns : goal.returns
returns c =
    let i = c.loop-start.invariant in
    let e : c.loop-start.start ≡ END = omega arith in
    record { value = rw (e, answer-all c.requires) at i.many; points_after = λ h. rw (e, answer-all c.requires) at (i.wrote h) }
