-- `gdsii::put_corners` meets its contract.
use Prim.Native.Nat.{suc, ◌+◌}
use native.Mathlib.Omega.{arith}
use mathlib.Core.Path.{◌≡◌, refl, sym, ap, ◌∙◌}
use mathlib.Core.Bool.{Bool, true, false, not, beq, cond, xor}
use mathlib.Core.List.{List, [], ◌∷◌}
use lib.ListN.{length}
use Rattle.plane.specs.declared.Point.{Point}
use Rattle.plane.specs.Lists.{keep}
use Rattle.plane.specs.Words.{same}
use Rattle.boundaries.specs.Boundary.{edge, vertical, slanted, is_open, merged, corners_after, boundary_corners}
use Rattle.boundaries.specs.Inner.{corners_by}
use Rattle.boundaries.proofs.Directions.{corners-by, by-step, by-none}
use Rattle.gdsii.specs.Inner.{vertices_left, put_points}
use Rattle.gdsii.proofs.Corners.{put-none}
use Rattle.gdsii.proofs.put_corners.Goals as goal
use Rattle.gdsii.proofs.put_corners.Goals.{In-Some-q, In-None}

-- no vertices have no corners
pub returns-in_default-clause-value : goal.returns-in_default-clause-value
unfolding boundary_corners corners_after merged
returns-in_default-clause-value c = rw c.in_default.ensures.steps.0 (refl, omega arith)

pub returns-in_default-clause-a_after : goal.returns-in_default-clause-a_after
unfolding boundary_corners corners_after merged put_points
returns-in_default-clause-a_after c = rw c.in_default.ensures.steps.0

xor-differ : (d e : Bool) → xor d e ≡ not (beq d e)
unfolding xor
xor-differ true true = refl
xor-differ true false = refl
xor-differ false true = refl
xor-differ false false = refl

-- one vertex more: where the direction changes it is a corner
one_more : (d e corner : Bool) (p q : Point) {left more : List Point} → left ≡ q ∷ more → e ≡ cond (same p q) d (vertical (edge p q)) → not (beq d e) ≡ corner → keep corner p (corners_by e q more) ≡ corners_by d p left
one_more d e corner p q {left} {more} next turn flips = ap (λ (x : Bool). keep x p (corners_by e q more)) (sym (xor-differ d e ∙ flips)) ∙ ap (λ (x : Bool). keep (xor d x) p (corners_by x q more)) turn ∙ by-step d p left q more next

pub loop-q-preserved-then-d-e : goal.loop-q-preserved-then-d-e
unfolding put_points
loop-q-preserved-then-d-e c =
    let l = c.loop-q in
    let corners = one_more l.d c.turned-e.result true l.p c.in-Some-q.q c.in-Some-q.ensures.steps c.turned-e.ensures c.if-d-e.true in
    let place : c.args.n + (l.k + 1) ≡ suc (c.args.n + l.k) = omega arith in
    (omega (arith, ap length c.in-Some-q.ensures.steps, l.invariant.0), omega (arith, ap length corners, l.invariant.1), rw (c.put_point.ensures, place) (ap (put_points l.a (c.args.n + l.k)) corners ∙ l.invariant.2))

pub loop-q-preserved : goal.loop-q-preserved
loop-q-preserved c =
    let l = c.loop-q in
    let corners = one_more l.d c.turned-e.result false l.p c.in-Some-q.q c.in-Some-q.ensures.steps c.turned-e.ensures c.if-d-e.false in
    (omega (arith, ap length c.in-Some-q.ensures.steps, l.invariant.0), omega (arith, ap length corners, l.invariant.1), ap (put_points l.a (c.args.n + l.k)) corners ∙ l.invariant.2)

-- the corners of the loop are those of the boundary
found : (c : In-None) → corners_by c.last_vertical-d.result c.in-Some.first (vertices_left c.into_iter-q-iterator.result) ≡ boundary_corners (vertices_left c.args.vertices)
found c =
    let whole = c.in-Some.ensures.steps in
    rw (c.into_iter-q-iterator.ensures.into_iter_gives, c.last_vertical-d.ensures) (sym (ap boundary_corners whole ∙ corners-by c.in-Some.first (vertices_left c.next.new.self) (ap is_open (sym whole) ∙ c.requires.shut) (ap slanted (sym whole) ∙ c.requires.square)))

-- and none is left
none : (c : In-None) → corners_by c.loop-q.d c.loop-q.p (vertices_left c.loop-q.q-iterator) ≡ []
none c = ap (corners_by c.loop-q.d c.loop-q.p) c.in-None.ensures.steps.0 ∙ by-none c.loop-q.d c.loop-q.p

pub returns-clause-value : goal.returns-clause-value
returns-clause-value c =
    let at = (goal.at.returns-clause-value c).In-None in
    let it = ap (λ v. length (vertices_left v)) c.into_iter-q-iterator.ensures.into_iter_gives in
    (omega (arith, c.loop-q.invariant.1, ap length (none at), ap length (found at)), omega (arith, c.loop-q.invariant.0, ap length c.in-Some.ensures.steps, it))

pub returns-clause-a_after : goal.returns-clause-a_after
returns-clause-a_after c =
    let l = c.loop-q in
    let at = (goal.at.returns-clause-a_after c).In-None in
    sym (put-none l.a (c.args.n + l.k)) ∙ ap (put_points l.a (c.args.n + l.k)) (sym (none at)) ∙ l.invariant.2 ∙ ap (put_points c.args.a.now c.args.n) (found at)
