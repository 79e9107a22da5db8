-- `text::list` meets its contract.
use Rattle.std.proofs.Common.{◌≡◌, ◌≤◌, ◌*◌, List, length, take, Ok, Err, sym, ap, refl, ◌∙◌, arith}
use lib.ListN.{replicate, length-replicate}
use lib.Seq.{length-take-le}
use lib.IntN.{ℤ, pos}
use Rattle.plane.specs.Words.{rects_of, rect_size}
use Rattle.plane.proofs.Arrays.{rects-flat}
use Rattle.entry.specs.Checks.{accepted, refused}
use Rattle.entry.specs.Refusals.{number_of}
use Rattle.rule.specs.ForwardCall.{ForwardAccepted, ForwardDone, forward_list, forward_sums, forward_told}
use Rattle.rule.proofs.ForwardCall.{forward-accepted, forward-leaves}
use Rattle.panbuckle.proofs.Kept.{done-told, done-numbers}
use Rattle.entry.proofs.Reasons.{number-above}
use Rattle.text.specs.Program.{most_work, most_list, list_lines}
use Rattle.text.specs.Inner.{says}
use Rattle.text.proofs.Longest.{list-fits}
use Rattle.text.proofs.Listing.{says-accepted, says-refused}
use Rattle.text.proofs.list.Goals.{In-Ok, In-Err}
use Rattle.text.proofs.list.Goals as goal

module _ (c : In-Ok) where
  a : List ℤ
  a = c.args.points.now

  -- the arrays that forward is lent have the program's lengths
  ran : ForwardDone c.args.points.now (replicate most_work (pos 0)) (replicate most_list (pos 0)) (forward_told (Ok c.in-Ok.sums)) c.in-Ok.ensures.work-after c.fracture.new.rects
  ran = c.in-Ok.ensures.done

  accepts : says c.args.points.now ≡ accepted
  accepts = says-accepted ran (length-replicate most_work (pos 0)) (length-replicate most_list (pos 0)) refl

  -- so what is told and written is the list
  sums : c.in-Ok.sums ≡ forward_sums c.args.points.now
  sums = done-told ran refl

  lines : list_lines c.in-Ok.sums (rects_of (take (rect_size * c.in-Ok.sums.count) c.fracture.new.rects)) ≡ list_lines (forward_sums c.args.points.now) (forward_list c.args.points.now)
  lines = rw (done-numbers ran refl, rects-flat (forward_list c.args.points.now), sums)

  -- it was accepted, and has room
  taken : ForwardAccepted c.args.points.now most_work most_list
  taken = (forward-accepted c.args.points.now most_work most_list).0 accepts

  room : rect_size * c.in-Ok.sums.count ≤ length c.fracture.new.rects
  room =
      let long : length c.fracture.new.rects ≡ most_list = (forward-leaves ran).length-kept ∙ length-replicate most_list (pos 0) in
      omega (arith, taken.room, ap (λ s. s.count) sums)

pub overflow_mul-rects : goal.overflow_mul-rects
overflow_mul-rects c = let o = (goal.at.overflow_mul-rects c).In-Ok in omega (arith, (taken o).room, ap (λ s. s.count) (sums o))

pub slice_bounds-rects-end : goal.slice_bounds-rects-end
slice_bounds-rects-end c = room (goal.at.slice_bounds-rects-end c).In-Ok

pub slice_bounds-print_list-end : goal.slice_bounds-print_list-end
slice_bounds-print_list-end c = sym (length-take-le _ _ (room (goal.at.slice_bounds-print_list-end c).In-Ok))

pub print_list-requires : goal.print_list-requires
print_list-requires c = let o = (goal.at.print_list-requires c).In-Ok in rw (lines o) (omega (arith, list-fits c.args.points.now most_work (taken o)))

pub returns-in-Ok : goal.returns-in-Ok
returns-in-Ok c =
    let o = (goal.at.returns-in-Ok c).In-Ok in
    record {
      report = rw (accepts o, c.origin.ensures, c.print_list.ensures.value, lines o);
      output = rw (accepts o) (rw (lines o) at c.print_list.ensures.out_after);
    }

-- anything else is refused
refuses : (c : In-Err) → says c.args.points.now ≡ refused (number_of c.in-Err.refusal.reason) c.in-Err.refusal.place
refuses c =
    let d : ForwardDone c.args.points.now (replicate most_work (pos 0)) (replicate most_list (pos 0)) (forward_told (Err c.in-Err.refusal)) c.in-Err.ensures.work-after c.fracture.new.rects = c.in-Err.ensures.done in
    says-refused d (length-replicate most_work (pos 0)) (length-replicate most_list (pos 0)) (λ z. omega (arith, number-above c.in-Err.refusal.reason))

pub returns-in-Err : goal.returns-in-Err
returns-in-Err c =
    let e = (goal.at.returns-in-Err c).In-Err in
    record {
      report = rw (refuses e, c.point_named.ensures, c.print.ensures.value, c.refusal_page.ensures);
      output = rw (refuses e) (rw c.refusal_page.ensures at c.print.ensures.out_after);
    }
