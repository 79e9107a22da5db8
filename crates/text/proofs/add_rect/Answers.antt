-- `text::add_rect` meets its contract.
use Rattle.std.proofs.Common.{[], ◌∷◌, arith}
use Rattle.numerals.specs.Bytes.{ascii}
use Rattle.numerals.specs.Numerals.{signed}
use Rattle.numerals.proofs.Pages.{added-all}
use Rattle.plane.proofs.Bits.{back}
use Rattle.text.specs.Program.{rect_line}
use Rattle.text.proofs.add_rect.Goals as goal

pub returns : goal.returns
unfolding rect_line
returns c =
    let r = c.args.r in
    rw (c.add-4.ensures, c.add_signed-4.ensures, c.add-3.ensures, c.add_signed-3.ensures, c.add-2.ensures, c.add_signed-2.ensures, c.add.ensures, c.add_signed.ensures, back r.x (omega arith), back r.y (omega arith), back r.w (omega arith), back r.h (omega arith))
    (added-all 153_679 c.args.page.now (signed r.x ∷ ascii " " ∷ signed r.y ∷ ascii " " ∷ signed r.w ∷ ascii " " ∷ signed r.h ∷ ascii "\n" ∷ []) c.requires)
