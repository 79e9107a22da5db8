-- `text::point_page` meets its contract.
use Rattle.std.proofs.Common.{◌≡◌, [], ◌∷◌, ◌++◌, length, length-append, ap, ◌∙◌, append_assoc, arith}
use Rattle.numerals.specs.Bytes.{ascii}
use Rattle.numerals.specs.Numerals.{decimal, signed}
use Rattle.numerals.proofs.Pages.{joined, added-all}
use Rattle.plane.proofs.Bits.{back}
use Rattle.text.specs.Sentences.{names_point}
use Rattle.text.proofs.Lengths.{names-length}
use Rattle.text.proofs.point_page.Goals as goal

pub returns : goal.returns
unfolding names_point
returns c =
    let p = c.args.p in
    let named = names_point c.args.place p in
    let pieces = ascii "Point " ∷ decimal c.args.place ∷ ascii " (counted from 0) at (" ∷ signed p.x ∷ ascii ", " ∷ signed p.y ∷ ascii ") " ∷ c.args.fault.now ∷ [] in
    let e : joined pieces ≡ named ++ c.args.fault.now = simp append_assoc in
    let h = names-length c.args.place p (omega arith) (omega arith) (omega arith) in
    rw (c.add-5.ensures, c.add-4.ensures, c.add_signed-2.ensures, c.add-3.ensures, c.add_signed.ensures, c.add-2.ensures, c.add_number.ensures, c.add.ensures, c.new-page.ensures, back p.x (omega arith), back p.y (omega arith))
    (added-all 200 [] pieces (omega (arith, h, c.requires, ap length e, length-append named c.args.fault.now)) ∙ e)
