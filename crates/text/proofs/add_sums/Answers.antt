-- `text::add_sums` meets its contract.
use Rattle.std.proofs.Common.{[], ◌∷◌}
use Rattle.numerals.specs.Bytes.{ascii}
use Rattle.numerals.specs.Numerals.{decimal}
use Rattle.numerals.proofs.Pages.{added-all}
use Rattle.text.specs.Program.{sums_line}
use Rattle.text.proofs.add_sums.Goals as goal

pub returns : goal.returns
unfolding sums_line
returns c =
    let s = c.args.sums in
    rw (c.add-4.ensures, c.add_number-3.ensures, c.add-3.ensures, c.add_number-2.ensures, c.add-2.ensures, c.add_number.ensures, c.add.ensures)
    (added-all 153_679 c.args.page.now (ascii "rects " ∷ decimal s.count ∷ ascii " area " ∷ decimal s.area ∷ ascii " edge " ∷ decimal s.edge ∷ ascii "\n" ∷ []) c.requires)
