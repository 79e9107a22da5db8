-- `text::answer` meets its contract.
use Rattle.std.proofs.Common.{◌≡◌, Ok, Err, sym, refl, arith}
use lib.ListN.{replicate, length-replicate}
use lib.Seq.{length-take-le}
use lib.IntN.{pos}
use Rattle.entry.specs.Checks.{verdict, refused}
use Rattle.entry.specs.Entry.{told}
use Rattle.entry.specs.Refusals.{number_of}
use Rattle.reading.specs.Reading.{text_checks, ReadDone}
use Rattle.reading.proofs.Kept.{AllRead, read_done, read-refused}
use Rattle.entry.proofs.Reasons.{number-above}
use Rattle.text.proofs.Listing.{program-listed, program-told}
use Rattle.text.proofs.answer.Goals.{In-Ok, In-Err}
use Rattle.text.proofs.answer.Goals as goal

-- what is known of a text that the reader accepts, with room for 4,096 points
all_read : (c : In-Ok) → AllRead c.args.input.now (told (Ok c.in-Ok.count)) c.read_points.new.points
all_read c =
    let d : ReadDone c.args.input.now (replicate 8192 (pos 0)) (told (Ok c.in-Ok.count)) c.read_points.new.points = c.in-Ok.ensures in
    read_done c.args.input.now d refl

-- and of one that it refuses
refuses : (c : In-Err) → verdict (text_checks c.args.input.now) ≡ refused (number_of c.in-Err.refusal.reason) c.in-Err.refusal.place
refuses c =
    let d : ReadDone c.args.input.now (replicate 8192 (pos 0)) (told (Err c.in-Err.refusal)) c.read_points.new.points = c.in-Err.ensures in
    read-refused c.args.input.now d (omega (arith, length-replicate 8192 (pos 0))) (λ z. omega (arith, number-above c.in-Err.refusal.reason))

pub overflow_mul-points : goal.overflow_mul-points
overflow_mul-points c = omega (arith, (all_read c).few)

pub slice_bounds-points-end : goal.slice_bounds-points-end
slice_bounds-points-end c = (all_read c).fits

pub slice_bounds-list-end : goal.slice_bounds-list-end
slice_bounds-list-end c = sym (length-take-le _ _ (all_read (goal.at.slice_bounds-list-end c).In-Ok).fits)

pub returns-in-Ok : goal.returns-in-Ok
returns-in-Ok c =
    let h = all_read (goal.at.returns-in-Ok c).In-Ok in
    program-listed h.accepts (rw h.numbers at c.list.ensures)

pub returns-in-Err : goal.returns-in-Err
returns-in-Err c =
    program-told (refuses (goal.at.returns-in-Err c).In-Err) (rw (c.origin.ensures, c.print.ensures.value, c.refusal_page.ensures)) (rw c.refusal_page.ensures at c.print.ensures.out_after)
