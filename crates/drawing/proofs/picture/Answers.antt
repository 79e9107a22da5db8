-- `drawing::picture` meets its contract.
use native.Mathlib.Omega.{arith}
use borrow.Author.Rules.{rules}
use mathlib.Core.Path.{refl}
use Rattle.drawing.proofs.Longest.{picture-fits}
use Rattle.drawing.proofs.Shown.{drawn, not-drawn}
use Rattle.drawing.proofs.picture.Goals as goal

pub returns : goal.returns
returns c = drawn c.draw_input.ensures refl (picture-fits c.args.input.now) (omega arith) (λ same. search rules)

pub returns-then-out-lt-MOST_DRAWN : goal.returns-then-out-lt-MOST_DRAWN
returns-then-out-lt-MOST_DRAWN c = let a = c.args in not-drawn a.input.now a.out.now (omega arith)
