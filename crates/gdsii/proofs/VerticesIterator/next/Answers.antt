-- `gdsii::VerticesIterator::next` meets its contract.
use mathlib.Core.Path.{◌≡◌, sym, ap, ◌∙◌}
use Prim.Native.Nat.{ℕ, ◌/◌}
use native.Mathlib.Omega.{arith}
use mathlib.Core.Logic.{⊎_elim}
use mathlib.Core.List.{List, ◌∷◌}
use lib.ListN.{length}
use borrow.Author.Rules.{rules}
use Rattle.plane.proofs.AtPlace.{part-rest}
use Rattle.plane.proofs.Bits.{back}
use Rattle.gdsii.specs.Walk.{vertex_size, vertex_at, vertices}
use Rattle.gdsii.specs.Inner.{vertices_left}
use Rattle.gdsii.proofs.Shapes.{left-none, left-next}
use Rattle.gdsii.proofs.VerticesIterator.next.Goals as goal
use Rattle.gdsii.proofs.VerticesIterator.next.Goals.{After-read-2}

pub returns-in_err-rest-clause-steps : goal.returns-in_err-rest-clause-steps
unfolding vertices_left
returns-in_err-rest-clause-steps c =
    let none = left-none c.args.self.now.bytes.now (⊎_elim (λ h. h) (λ h. omega arith) c.in_err-rest.ensures.lookup.0) in
    rw c.from_residual.ensures (none, none)

-- the vertex that is read, and those of the bytes after it
next : (c : After-read-2) → vertices_left c.args.self.now ≡ vertex_at c.args.self.now.bytes.now 0 ∷ vertices_left (record { bytes = c.in_ok-rest.rest })
unfolding vertices_left
next c =
    let t = c.args.self.now.bytes.now in
    let found = c.in_ok-rest.ensures.lookup.0 in
    left-next t found.0 ∙ ap (λ (u : List ℕ). vertex_at t 0 ∷ vertices (length u / vertex_size) 0 u) (sym (found.2 ∙ part-rest t vertex_size))

pub returns-clause-steps : goal.returns-clause-steps
unfolding vertex_at
returns-clause-steps c =
    rw (back c.read.result (omega arith), back c.read-2.result (omega arith), c.read.ensures, c.read-2.ensures) (next (goal.at.returns-clause-steps c).After-read-2)

pub returns-clause-goes : goal.returns-clause-goes
returns-clause-goes c = let shorter = ap length (next (goal.at.returns-clause-goes c).After-read-2) in search rules
