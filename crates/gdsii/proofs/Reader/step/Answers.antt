-- `gdsii::Reader::step` meets its contract.
use native.Mathlib.Omega.{arith}
use mathlib.Core.Path.{sym, ap, ◌∙◌}
use lib.ListN.{length, length-drop}
use Rattle.plane.proofs.AtPlace.{part-rest}
use Rattle.records.proofs.Heads.{good-sized}
use Rattle.gdsii.specs.Walk.{judge}
use Rattle.gdsii.specs.Inner.{told_step}
use Rattle.entry.proofs.Reasons.{passed-up}
use Rattle.gdsii.proofs.Walk.{judge-unread, judge-good}
use Rattle.gdsii.proofs.Reader.step.Goals as goal

pub returns-in_err-good : goal.returns-in_err-good
returns-in_err-good c =
    let a = c.args in
    ap (told_step a.c) (passed-up c.from_residual.result _ c.from_residual.ensures.1)
    ∙ judge-unread a.self.now.name.now a.self.now.layer a.c _ (sym c.in_err-good.ensures)
    ∙ ap (judge a.self.now.name.now a.self.now.layer a.c) (part-rest a.self.now.bytes.now a.c.at)

pub act-requires : goal.act-requires
act-requires c =
    let a = c.args in
    let s = good-sized _ _ (sym c.in_ok-good.ensures) in
    (s.least, s.most, omega (arith, s.most, ap length (part-rest a.self.now.bytes.now a.c.at), length-drop a.c.at a.self.now.bytes.now))

pub returns : goal.returns
returns c =
    let a = c.args in
    c.act.ensures
    ∙ judge-good a.self.now.name.now a.self.now.layer a.c _ (sym c.in_ok-good.ensures)
    ∙ ap (judge a.self.now.name.now a.self.now.layer a.c) (part-rest a.self.now.bytes.now a.c.at)
