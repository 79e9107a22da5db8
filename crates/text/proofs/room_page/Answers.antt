-- `text::room_page` meets its contract.
use Rattle.std.proofs.Common.{[], ◌∷◌, arith}
use Rattle.numerals.specs.Bytes.{ascii}
use Rattle.numerals.specs.Numerals.{decimal}
use Rattle.numerals.proofs.Pages.{added-all}
use Rattle.text.specs.Sentences.{room_says}
use Rattle.text.proofs.Lengths.{room-length}
use Rattle.text.proofs.room_page.Goals as goal

pub returns : goal.returns
unfolding room_says
returns c =
    let n = c.args.place in
    rw (c.add-2.ensures, c.add_number.ensures, c.add.ensures, c.new-page.ensures)
    (added-all 200 [] (ascii "The list has " ∷ decimal n ∷ ascii " rectangles, and there is room for 3200.\n" ∷ []) (omega (arith, room-length n (omega arith))))
