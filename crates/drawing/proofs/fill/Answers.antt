-- `drawing::fill` meets its contract.
use lib.ListN.{drop_of_length-le}
use Rattle.drawing.proofs.Pieces.{both, draws-nothing}
use Rattle.drawing.proofs.Filling.{filled-nil, next-of, next-number, next-byte}
use Rattle.drawing.proofs.fill.Goals as goal
use Rattle.drawing.proofs.fill.Goals.{then-b-eq-BLANK, else-b-eq-BLANK}

pub loop-b-init : goal.loop-b-init
loop-b-init c = rw c.iter-numbers.ensures.rest (λ end d. d)

pub loop-b-preserved : goal.loop-b-preserved
loop-b-preserved c =
    let l = c.loop-b in
    let t = c.args.template.now in
    λ end rest.
    elim c.if-b-eq-BLANK.branch [
      | then-b-eq-BLANK w ↦
          let n = next-of _ _ w.next.result w.next.ensures.steps in
          let e = next-number t l.numbers.rest.now l.b-index c.loop-b-test.true w.if-b-eq-BLANK.true in
          let a = rw (w.unwrap_or.ensures, w.copied.ensures, n.0) at w.add_number.ensures in
          l.invariant end (rw e (both a (rw (w.page-is, w.numbers-is, n.1) at rest)))
      | else-b-eq-BLANK w ↦
          let e = next-byte t l.numbers.rest.now l.b-index c.loop-b-test.true w.if-b-eq-BLANK.false in
          l.invariant end (rw e (both w.add.ensures (rw (w.page-is, w.numbers-is) at rest)))
    ]

pub returns : goal.returns
returns c = c.loop-b.invariant _ (rw (drop_of_length-le c.args.template.now c.loop-b-test.false, filled-nil _) (draws-nothing c.loop-b.page))
