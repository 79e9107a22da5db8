-- `reading::check_lines` meets its contract.
use Rattle.std.proofs.Common.{◌≡◌, ◌<◌, length, arith}
use Rattle.std.proofs.lemmas.Bool.Decides.{nat_tests}
use Rattle.entry.specs.Checks.{by-item, this}
use Rattle.entry.proofs.Search.{none-below-next}
use Rattle.entry.proofs.Verdicts.{refused-exactly, accepted-clear}
use Rattle.reading.specs.Inner.{lines_checks}
use Rattle.reading.specs.Lines.{lines_of, is_bad}
use Rattle.reading.proofs.Lines.{reached-bad, reached-next, reached-end}
use Rattle.reading.proofs.check_lines.Goals as goal

pub returns-in_default : goal.returns-in_default
returns-in_default c =
    let t = c.args.text.now in
    let h : 0 < length c.loop-rest.rest.now = grind (arith, nat_tests) in
    let b = reached-bad c.loop-rest.invariant.0 h c.in_default.ensures in
    rw (c.at.ensures, (refused-exactly (lines_checks t) 11 c.loop-rest.count).1 (this (by-item c.loop-rest.count b.0 b.1 c.loop-rest.invariant.1)))

pub loop-rest-preserved : goal.loop-rest-preserved
unfolding is_bad
loop-rest-preserved c =
    let p = reached-next c.loop-rest.invariant.0 c.in-Some.ensures in
    (p.reached, none-below-next c.loop-rest.invariant.1 (rw p.point))

pub returns : goal.returns
returns c =
    let t = c.args.text.now in
    let e : c.loop-rest.count ≡ length (lines_of t) = reached-end c.loop-rest.invariant.0 (grind (arith, nat_tests)) in
    rw ((accepted-clear (lines_checks t)).1 (rw e at c.loop-rest.invariant.1, tt), ← e)
