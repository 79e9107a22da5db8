-- `gdsii::Reader::act` meets its contract.
use Prim.Native.Nat.{◌-◌, ◌/◌}
use native.Mathlib.Omega.{arith}
use mathlib.Core.Path.{◌≡◌, sym, ap, ◌∙◌}
use mathlib.Core.List.{List}
use mir.Syntax.{w16}
use mir.Facts.{to_z-of_z}
use Rattle.plane.specs.declared.Point.{Point}
use Rattle.plane.proofs.Bits.{eq-bits}
use Rattle.records.specs.Records.{head_size, treatment_of}
use Rattle.gdsii.specs.Walk.{layer_in, vertex_size, vertices, by_shape, act, Boundary}
use Rattle.gdsii.specs.Inner.{vertices_left, shape_of, told_step}
use Rattle.gdsii.proofs.Shapes.{left-record, shaped, shape-told}
use Rattle.entry.proofs.Reasons.{passed-up}
use Rattle.gdsii.proofs.Reader.act.Goals as goal
use Rattle.gdsii.proofs.Reader.act.Goals.{After-check_shape}

-- the vertices of a boundary's record
abbrev outline : After-check_shape → List Point
outline c = vertices ((c.args.good.size - head_size) / vertex_size) head_size c.args.rest.now

-- as they were judged
judged : (c : After-check_shape) → let a = c.args in shaped c.check_shape.result (outline c) c.moved-next.result ≡ act a.self.now.name.now a.self.now.layer (treatment_of a.good.kind) a.c a.good.size a.good.next a.rest.now
unfolding vertices_left
judged c =
    let a = c.args in
    ap (λ s. shaped s (outline c) c.moved-next.result) (c.check_shape.ensures ∙ ap shape_of (left-record a.rest.now a.good.size c.requires.0 c.requires.1))
    ∙ shape-told (outline c) c.moved-next.result
    ∙ ap (by_shape (outline c)) c.moved-next.ensures
    ∙ rw (sym c.treatment_of.ensures ∙ c.in-Vertices.is, c.if-c-eq-BOUNDARY_XY.true, c.if-c-2.true, c.if-c-3.true)

pub returns-in_err-check_shape-in-Vertices : goal.returns-in_err-check_shape-in-Vertices
returns-in_err-check_shape-in-Vertices c =
    let at = (goal.at.returns-in_err-check_shape-in-Vertices c).After-check_shape in
    ap (told_step c.args.c) (passed-up c.from_residual.result _ c.from_residual.ensures.1) ∙ sym (ap (λ s. shaped s (outline at) c.moved-next.result) (c.in_err-check_shape-in-Vertices.was)) ∙ judged at

pub returns-in-Layer : goal.returns-in-Layer
unfolding layer_in
returns-in-Layer c =
    let number = to_z-of_z {w = w16} {z = c.read.result} (record { sfits = omega arith }) in
    rw (sym c.treatment_of.ensures ∙ c.in-Layer.is, eq-bits c.from.result c.args.self.now.layer (omega arith) (omega arith), c.from.ensures, number, c.read.ensures, c.moved-next.ensures)

pub returns-in_ok-check_shape-in-Vertices : goal.returns-in_ok-check_shape-in-Vertices
unfolding vertices_left
returns-in_ok-check_shape-in-Vertices c =
    let at = (goal.at.returns-in_ok-check_shape-in-Vertices c).After-check_shape in
    ap (λ vs. Boundary vs c.moved-next.result) (left-record c.args.rest.now c.args.good.size c.requires.0 c.requires.1)
    ∙ sym (ap (λ s. shaped s (outline at) c.moved-next.result) (c.in_ok-check_shape-in-Vertices.was))
    ∙ judged at
