-- `text::refusal_page` meets its contract.
use Rattle.std.proofs.Common.{[], ◌∷◌, arith}
use Rattle.numerals.specs.Bytes.{ascii}
use Rattle.numerals.specs.Numerals.{decimal}
use Rattle.numerals.proofs.Pages.{added-all}
use Rattle.entry.specs.Refusals.{number_of}
use Rattle.entry.proofs.Reasons.{number-few}
use Rattle.text.specs.Program.{refusal_line}
use Rattle.text.proofs.Lines.{refusal-length}
use Rattle.text.proofs.refusal_page.Goals as goal

pub returns : goal.returns
unfolding refusal_line
returns c =
    let e = c.args.refusal in
    let k = number_of e.reason in
    let h = refusal-length k e.place (omega (arith, number-few e.reason)) (omega arith) in
    rw (c.add-3.ensures, c.add_number-2.ensures, c.add-2.ensures, c.add_number.ensures, c.add.ensures, c.new-page.ensures, c.from-2.ensures, c.from.ensures)
    (added-all 64 [] (ascii "refused " ∷ decimal k ∷ ascii " place " ∷ decimal e.place ∷ ascii "\n" ∷ []) (omega (arith, h)))
