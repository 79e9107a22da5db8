-- `sweep::count_then_write` meets its contract. The first sweep sums, the second writes; both change only what
-- is zeroed at the end.
use Prim.Native.Nat.{ℕ, ◌*◌, ◌≤◌, ◌<◌, ◌/◌}
use native.Mathlib.Omega.{arith}
use mathlib.Core.Path.{◌≡◌, refl, ap, ◌∙◌}
use mathlib.Core.List.{List}
use lib.ListN.{length, take, replicate, length-map}
use lib.Seq.{length-take-le}
use lib.IntN.{ℤ, pos}
use Rattle.std.specs.Prelude.{Err}
use Rattle.plane.specs.declared.Rect.{Rect}
use Rattle.plane.specs.Words.{points_of, rect_size, point_at}
use Rattle.rule.specs.ForwardCall.{forward_answer, forward_work, forward_out, forward_list, forward_told}
use Rattle.rule.proofs.ForwardCall.{accepted-with-room, forward-accepted, forward-lacks-room}
use Rattle.sweep.specs.Inner.{KeptPast, swept_points}
use Rattle.sweep.proofs.Past.{kept_on, kept-drained}
use Rattle.sweep.proofs.count_then_write.Goals as goal
use Rattle.sweep.proofs.count_then_write.Goals.{In_ok-sums, In_ok-write_all, Else-rects-sums, Start}

-- the array, the working array and the rectangles
abbrev points : Start → List ℤ
points s = s.args.points.given.now

abbrev work : Start → List ℤ
work s = s.args.work.now

abbrev rects : Start → List Rect
rects s = forward_list (points s)

-- the points that are swept are no more than are given
swept : (s : Start) → length (swept_points (points s) s.args.points.order.now) ≤ length (points s) / 2
swept s = omega (arith, length-map s.args.points.order.now (point_at (points_of (points s))), s.requires.stand_for.no_more)

-- the start that is filled is all zeros
zeroed : (n : ℕ) (a : List ℤ) → n ≤ length a → {filled : List ℤ} → filled ≡ replicate (length (take n a)) (pos 0) → filled ≡ replicate n (pos 0)
zeroed n a h e = e ∙ ap (λ k. replicate k (pos 0)) (length-take-le n a h)

abbrev start_of : In_ok-sums → Start
start_of d = (goal.at-In_ok-sums d).Start

-- the count is the number of rectangles
needed : (d : In_ok-sums) → d.in_ok-sums.sums.count ≡ length (rects (start_of d))
needed d = ap (λ r. (forward_told r).count) d.in_ok-sums.ensures.sums ∙ ap length (start_of d).requires.stand_for.same-list

pub returns-then-rects-sums : goal.returns-then-rects-sums
unfolding forward_answer forward_work forward_out
returns-then-rects-sums c =
    let d = (goal.at.returns-then-rects-sums c).In_ok-sums in
    let s = start_of d in
    let l : length s.args.rects.now / rect_size < length (rects s) = omega (arith, needed d, c.if-rects-sums.true) in
    let v = (forward-lacks-room (points s) (length (work s)) (length s.args.rects.now) (length (rects s))).1 (s.requires.forward_accepted, refl, l) in
    record {
      answer = rw (v, ← needed d) (ap (λ e. forward_told (Err e)) c.at.ensures);
      working = rw v (rw (zeroed _ _ (omega (arith, s.requires.forward_accepted.working, d.in_ok-sums.ensures.kept.same_length)) (c.fill.ensures.after (λ y e. e))) (kept-drained (swept s) d.in_ok-sums.ensures.kept));
      output = rw v;
    }

abbrev counted : Else-rects-sums → In_ok-sums
counted c = (goal.at-Else-rects-sums c).In_ok-sums

-- the rectangles have room in the output
has_room : (c : Else-rects-sums) → let s = start_of (counted c) in length (rects s) ≤ length s.args.rects.now / rect_size
has_room c = omega (arith, needed (counted c), c.if-rects-sums.false)

pub write_all-requires : goal.write_all-requires
write_all-requires c =
    let d = counted (goal.at.write_all-requires c).Else-rects-sums in
    let s = start_of d in
    record {
      ready = rw d.in_ok-sums.ensures.kept.same_length s.requires.stand_for.ready;
      has_room = rw s.requires.stand_for.same-list (omega (arith, has_room (goal.at.write_all-requires c).Else-rects-sums));
    }

abbrev room_of : In_ok-write_all → Else-rects-sums
room_of e = (goal.at-In_ok-write_all e).Else-rects-sums

-- both sweeps change only the start of the working array
kept : (e : In_ok-write_all) → let s = start_of (counted (room_of e)) in KeptPast (2 * length (swept_points (points s) s.args.points.order.now)) (work s) e.write_all.new.work
kept e = kept_on (counted (room_of e)).in_ok-sums.ensures.kept e.in_ok-write_all.ensures.kept

pub returns : goal.returns
unfolding forward_answer forward_work forward_out
returns c =
    let o = room_of (goal.at.returns c).In_ok-write_all in
    let d = counted o in
    let s = start_of d in
    let v = (forward-accepted (points s) (length (work s)) (length s.args.rects.now)).1 (accepted-with-room s.requires.forward_accepted (has_room o)) in
    record {
      answer = rw (v, ← s.requires.edge_value, ← s.requires.stand_for.same-list) (ap forward_told d.in_ok-sums.ensures.sums);
      working = rw v (rw (zeroed _ _ (omega (arith, s.requires.forward_accepted.working, (kept (goal.at.returns c).In_ok-write_all).same_length)) (c.fill-2.ensures.after (λ y e. e))) (kept-drained (swept s) (kept (goal.at.returns c).In_ok-write_all)));
      output = rw (v, ← s.requires.stand_for.same-list) c.in_ok-write_all.ensures.output;
    }
