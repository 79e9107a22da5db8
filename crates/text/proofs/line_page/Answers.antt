-- `text::line_page` meets its contract.
use Rattle.std.proofs.Common.{[], ◌∷◌, arith}
use Rattle.numerals.specs.Bytes.{ascii}
use Rattle.numerals.specs.Numerals.{decimal}
use Rattle.numerals.proofs.Pages.{added-all}
use Rattle.text.specs.Sentences.{text_says}
use Rattle.text.proofs.Lengths.{text-length}
use Rattle.text.proofs.line_page.Goals as goal

pub returns : goal.returns
unfolding text_says
returns c =
    let n = c.args.place in
    rw (c.add-2.ensures, c.add_number.ensures, c.add.ensures, c.new-page.ensures)
    (added-all 200 [] (ascii "Line " ∷ decimal n ∷ ascii " (counted from 0) is not two whole numbers of 32 bits with one space between them and a newline at the end.\n" ∷ []) (omega (arith, text-length n (omega arith))))
