-- `reading::next_point` meets its contract.
use Rattle.std.proofs.Common.{ℕ, ◌≡◌, ◌<◌, List, length, ap, sym, ◌∙◌, arith, length-drop}
use borrow.Author.Tests.{lt-ltb, le-ltb}
use Rattle.numerals.specs.Numerals.{number_of}
use Rattle.reading.specs.Lines.{newline, space, before_first, after_first, point_from, line_point}
use Rattle.reading.specs.Inner.{IsParted, first_line}
use Rattle.reading.proofs.Lines.{drop-before}
use Rattle.reading.proofs.next_point.Goals as goal

module _ (t : List ℕ) {line rest : List ℕ} (p : IsParted newline t line rest) where
  -- the point of the first line is that of the bytes before the newline
  ended : line_point (first_line t) ≡ point_from (number_of (before_first space line)) (number_of (after_first space line))
  unfolding line_point
  ended = rw (p.before-is, lt-ltb (length (before_first newline t)) (length t) (omega (arith, p.found, ap length p.before-is)))

  -- what comes after it is less
  less : length rest < length t
  less = omega (arith, p.found, ap length p.after-is, ap length (drop-before newline t), length-drop {A = ℕ})

pub returns : goal.returns
returns c =
    let p = c.in_ok-line.ensures in
    record { point = ended c.args.text.now p ∙ sym c.in_ok-point_of.ensures; rest-is = p.after-is; less = less c.args.text.now p }

pub returns-in_err-line : goal.returns-in_err-line
unfolding line_point
returns-in_err-line c =
    let t = c.args.text.now in
    rw (c.from_residual.ensures, le-ltb (length (before_first newline t)) (length t) (omega (arith, ap length c.in_err-line.ensures)))

pub returns-in_err-point_of : goal.returns-in_err-point_of
returns-in_err-point_of c = rw c.from_residual-in_err-point_of.ensures (ended c.args.text.now c.in_ok-line.ensures ∙ sym c.in_err-point_of.ensures)
