-- `reading::write_points` meets its contract.
use Rattle.std.proofs.Common.{ℕ, zero, suc, ◌≡◌, List, [], ◌∷◌, length, take, refl, length-append, arith}
use lib.ListN.{length-set}
use lib.Seq.{take-length}
use Rattle.plane.specs.declared.Point.{Point}
use Rattle.plane.specs.Words.{flat_points}
use Rattle.plane.proofs.Bits.{back}
use Rattle.plane.proofs.Bools.{clash}
use Rattle.plane.proofs.AtStart.{start-point}
use Rattle.entry.proofs.Verdicts.{accepted-clear}
use Rattle.reading.specs.Inner.{lines_checks}
use Rattle.reading.specs.Lines.{lines_of, points_in}
use Rattle.reading.proofs.Lines.{reached-start, reached-bad, reached-next, reached-end, points-next}
use Rattle.reading.proofs.write_points.Goals as goal
use Rattle.reading.proofs.write_points.Goals.{In_default}

pub loop-point-init : goal.loop-point-init
unfolding flat_points points_in
loop-point-init c = (reached-start c.args.text.now, refl, refl, refl)

-- the line of this turn is good, so there is room for its point
pub bounds-points-i : goal.bounds-points-i
bounds-points-i c = let p = reached-next c.loop-point.invariant.0 c.in-Some.ensures in omega (arith, p.line)

pub bounds-points-i-in-Some : goal.bounds-points-i-in-Some
bounds-points-i-in-Some c = let p = reached-next c.loop-point.invariant.0 c.in-Some.ensures in simp length-set (omega (arith, p.line))

pub loop-point-preserved : goal.loop-point-preserved
loop-point-preserved c =
    let l = c.loop-point in
    let n = c.in-Some.point in
    let g = reached-next l.invariant.0 c.in-Some.ensures in
    let ps : List Point = points_in (take l.i (lines_of c.args.text.now)) in
    let e = points-next (lines_of c.args.text.now) l.i g.line g.point in (
      g.reached,
      rw e (omega (arith, length-append ps (n ∷ []))),
      simp length-set l.invariant.2,
      rw (e, back n.x (omega arith), back n.y (omega arith), l.invariant.3) (start-point ps n c.args.points.now l.i l.invariant.1 (omega (arith, g.line))),
    )

-- where there is no next point all lines are passed, since none is bad
passed_all : (c : In_default) → c.loop-point.i ≡ length (lines_of c.args.text.now)
passed_all c = go (length c.loop-point.rest.now) refl
  where
    go : (n : ℕ) → length c.loop-point.rest.now ≡ n → c.loop-point.i ≡ length (lines_of c.args.text.now)
    go zero e = reached-end c.loop-point.invariant.0 e
    go (suc n) e =
        let b = reached-bad c.loop-point.invariant.0 (omega arith) c.in_default.ensures in
        absurd (clash b.1 (((accepted-clear (lines_checks c.args.text.now)).0 c.requires.text_value).0 c.loop-point.i b.0))

pub returns : goal.returns
returns c = rw (passed_all c, take-length (lines_of c.args.text.now)) at c.loop-point.invariant.3
