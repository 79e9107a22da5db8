-- `gdsii::Reader::next_boundary` meets its contract.
use Prim.Native.Nat.{ℕ, ◌≤◌}
use native.Mathlib.Omega.{arith}
use mathlib.Core.Path.{◌≡◌, sym, ap, ◌∙◌}
use mathlib.Core.List.{List}
use lib.ListN.{drop, length-drop}
use Rattle.std.specs.Prelude.{Ok}
use Rattle.plane.specs.declared.Point.{Point}
use Rattle.gdsii.specs.declared.Cursor.{Cursor}
use Rattle.gdsii.specs.Walk.{judge, Passed, Boundary}
use Rattle.gdsii.specs.Inner.{vertices_left, told_step, Ready}
use Rattle.gdsii.proofs.Walk.{passed-ahead, read-stops, read-over, read-passes, read-outline, outline-ready, read-end}
use Rattle.gdsii.proofs.Reader.next_boundary.Goals as goal
use Rattle.gdsii.proofs.Reader.next_boundary.Goals.{In-Ok-Pass, In-Ok-Read}

pub returns-in-Err-clause-result_value : goal.returns-in-Err-clause-result_value
returns-in-Err-clause-result_value c =
    let s = c.args.self.now in
    rw c.at.ensures (read-stops s.name.now s.layer c.loop-c.c s.bytes.now c.loop-c-test.true (sym c.in-Err.ensures) ∙ c.loop-c.invariant.2)

pub returns-in-Ok-End-clause-result_value : goal.returns-in-Ok-End-clause-result_value
returns-in-Ok-End-clause-result_value c =
    let s = c.args.self.now in
    let e = sym c.in-Ok-End.ensures ∙ ap (λ x. told_step c.loop-c.c (Ok x)) c.in-Ok-End.field-0-is in
    read-over s.name.now s.layer c.loop-c.c s.bytes.now c.loop-c-test.true e ∙ c.loop-c.invariant.2

-- a record that is passed
passed : (c : In-Ok-Pass) → let s = c.args.self.now in judge s.name.now s.layer c.loop-c.c (drop c.loop-c.c.at s.bytes.now) ≡ Passed c.in-Ok-Pass.next
passed c = sym c.in-Ok-Pass.ensures ∙ ap (λ x. told_step c.loop-c.c (Ok x)) c.in-Ok-Pass.field-0-is

pub loop-c-smaller : goal.loop-c-smaller
loop-c-smaller c =
    let s = c.args.self.now in
    omega (arith, (passed-ahead s.name.now s.layer c.loop-c.c _ (passed (goal.at.loop-c-smaller c).In-Ok-Pass)).least, c.loop-c-test.true)

pub loop-c-preserved : goal.loop-c-preserved
loop-c-preserved c =
    let s = c.args.self.now in
    let l = c.loop-c in
    let h = c.loop-c-test.true in
    let e = passed (goal.at.loop-c-preserved c).In-Ok-Pass in
    let g = passed-ahead s.name.now s.layer l.c _ e in
    (omega (arith, g.least), omega (arith, g.most, h, length-drop l.c.at s.bytes.now), read-passes s.name.now s.layer l.c s.bytes.now h e ∙ l.invariant.2)

-- a boundary that is read
read : (c : In-Ok-Read) → let s = c.args.self.now in judge s.name.now s.layer c.loop-c.c (drop c.loop-c.c.at s.bytes.now) ≡ Boundary (vertices_left c.in-Ok-Read.vertices) c.in-Ok-Read.next
read c = sym c.in-Ok-Read.ensures ∙ ap (λ x. told_step c.loop-c.c (Ok x)) c.in-Ok-Read.field-0-is

pub returns-in-Ok-Read-clause-result_value : goal.returns-in-Ok-Read-clause-result_value
returns-in-Ok-Read-clause-result_value c =
    let s = c.args.self.now in
    read-outline s.name.now s.layer c.loop-c.c s.bytes.now c.loop-c-test.true (read (goal.at.returns-in-Ok-Read-clause-result_value c).In-Ok-Read) ∙ c.loop-c.invariant.2

-- one that is found after the cursor is found after the first one
later : {t : List ℕ} {c d e : Cursor} {vs : List Point} → d.at ≤ c.at → Ready t c vs e → Ready t d vs e
later h r = record { shut = r.shut; square = r.square; ahead = omega (arith, r.ahead); within = r.within }

pub returns-in-Ok-Read-clause-usable : goal.returns-in-Ok-Read-clause-usable
returns-in-Ok-Read-clause-usable c =
    let s = c.args.self.now in
    later c.loop-c.invariant.0 (outline-ready s.name.now s.layer c.loop-c.c s.bytes.now c.loop-c-test.true (read (goal.at.returns-in-Ok-Read-clause-usable c).In-Ok-Read))

pub returns-clause-result_value : goal.returns-clause-result_value
returns-clause-result_value c =
    let s = c.args.self.now in
    rw c.at-2.ensures (read-end s.name.now s.layer c.loop-c.c s.bytes.now c.loop-c-test.false ∙ c.loop-c.invariant.2)
