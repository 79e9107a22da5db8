-- `drawing::add_refusal` meets its contract: the number and the place, and then the sentence, which is short.
use Prim.Native.Nat.{◌≤◌}
use native.Mathlib.Omega.{arith}
use lib.ListN.{length, replicate}
use Rattle.numerals.proofs.Writing.{Wrote, wrote, wrote-front, wrote-within, wrote-many}
use Rattle.entry.proofs.Reasons.{number-few}
use Rattle.text.specs.declared.Report.{Report}
use Rattle.text.specs.Program.{outcome_told}
use Rattle.text.specs.Sentences.{sentence}
use Rattle.text.proofs.Lengths.{ReportFits, sentence-length}
use Rattle.drawing.specs.Inner.{Draws}
use Rattle.drawing.specs.Picture.{refused_says, refusal_says}
use Rattle.drawing.proofs.Pieces.{both}
use Rattle.drawing.proofs.add_refusal.Goals as goal
use Rattle.drawing.proofs.add_refusal.Goals.{Start, After-fill, After-complaint-n}

abbrev report : Start → Report
report s = outcome_told s.args.outcome

-- a sentence is short, so it is said
short : (s : Start) → length (sentence (report s)) ≤ 200
short s =
    let fits : ReportFits (report s) = rw s.requires (record { number = omega (arith, number-few s.args.refusal.reason); place = omega arith; x-small = omega arith; y-small = omega arith }) in
    sentence-length (report s) fits

said : (c : After-complaint-n) → Wrote (replicate 200 0) 0 (sentence (report (goal.at-After-complaint-n c).Start)) c.complaint-n.result c.complaint-n.new.out
said c = wrote (rw c.into.ensures at c.complaint-n.ensures) (omega (arith, short (goal.at-After-complaint-n c).Start))

-- the number and the place
refused-on : (c : After-fill) → Draws c.args.page.now (refused_says c.args.view (report (goal.at-After-fill c).Start)) c.fill.new.page
unfolding refused_says
refused-on c = rw c.requires (rw (c.free_beside-left.ensures.value, c.from-number.ensures, c.from.ensures) at c.fill.ensures)

pub slice_bounds-said-end : goal.slice_bounds-said-end
slice_bounds-said-end c = wrote-within (said (goal.at.slice_bounds-said-end c).After-complaint-n) (omega (arith, short (goal.at.slice_bounds-said-end c).Start))

pub slice_bounds-add-end : goal.slice_bounds-add-end
slice_bounds-add-end c = wrote-many (said (goal.at.slice_bounds-add-end c).After-complaint-n)

pub returns : goal.returns
unfolding refusal_says
returns c =
    let g = goal.at.returns c in
    both (refused-on g.After-fill) (both (rw (wrote-front (said g.After-complaint-n)) at c.add.ensures) c.add-2.ensures)
