-- `reading::point_of` meets its contract.
use Rattle.std.proofs.Common.{◌≡◌, ℤ, ap, refl, ◌∙◌, Option, Some, None}
use lib.ListN.{length}
use Rattle.numerals.specs.Numerals.{number_of}
use Rattle.reading.specs.Lines.{space, point_from}
use Rattle.reading.proofs.Lines.{after_none}
use Rattle.reading.proofs.point_of.Goals as goal

-- without a second number there is no point
no_second : (x : Option ℤ) → None ≡ point_from x None
no_second None = refl
no_second (Some x) = refl

pub returns-in_err-x : goal.returns-in_err-x
unfolding number_of
returns-in_err-x c = c.from_residual.ensures ∙ rw (after_none space c.args.line.now (ap length c.in_err-x.ensures)) (no_second _)
