-- `drawing::draw` meets its contract: what is drawn is the list that forward made, and none of points that it refuses.
use Prim.Native.Nat.{◌*◌, ◌≤◌}
use native.Mathlib.Omega.{arith}
use mathlib.Core.Path.{◌≡◌, sym, ◌∙◌}
use lib.ListN.{length, replicate, length-replicate}
use lib.Seq.{length-take-le}
use lib.IntN.{pos}
use Rattle.plane.specs.Words.{rect_size}
use Rattle.rule.specs.ForwardCall.{ForwardDone, forward_told, sums_told}
use Rattle.rule.proofs.ForwardCall.{forward-leaves}
use Rattle.text.specs.Program.{most_work, most_list}
use Rattle.drawing.proofs.Shown.{Made, list-made, sums-or-none}
use Rattle.drawing.proofs.draw.Goals as goal
use Rattle.drawing.proofs.draw.Goals.{After-unwrap_or-sums}

module _ (c : After-unwrap_or-sums) where
  -- the arrays that forward is lent have the program's lengths
  ran : ForwardDone c.args.points.now (replicate most_work (pos 0)) (replicate most_list (pos 0)) (forward_told c.forward.result) c.forward.new.work c.forward.new.rects
  ran = c.forward.ensures

  made : Made c.args.points.now (forward_told c.forward.result) c.forward.new.rects
  made = list-made ran (length-replicate most_work (pos 0)) (length-replicate most_list (pos 0))

  sums : c.unwrap_or-sums.result ≡ sums_told (forward_told c.forward.result)
  sums = c.unwrap_or-sums.ensures ∙ sums-or-none c.forward.result

  -- the output has room for the list
  room : rect_size * c.unwrap_or-sums.result.count ≤ length c.forward.new.rects
  room =
      let long : length c.forward.new.rects ≡ most_list = (forward-leaves ran).length-kept ∙ length-replicate most_list (pos 0) in
      rw sums (omega (arith, made.count, long))

pub overflow_mul-rects : goal.overflow_mul-rects
overflow_mul-rects c =
    let u = (goal.at.overflow_mul-rects c).After-unwrap_or-sums in
    rw (sums u) (omega (arith, (made u).count))

pub slice_bounds-rects-end : goal.slice_bounds-rects-end
slice_bounds-rects-end c = room (goal.at.slice_bounds-rects-end c).After-unwrap_or-sums

pub slice_bounds-add_picture-end : goal.slice_bounds-add_picture-end
slice_bounds-add_picture-end c = sym (length-take-le _ _ (room (goal.at.slice_bounds-add_picture-end c).After-unwrap_or-sums))

pub returns : goal.returns
returns c =
    let u = (goal.at.returns c).After-unwrap_or-sums in
    rw (sums u, (made u).list, (made u).sums) at c.add_picture.ensures
