-- `panbuckle::toggled` meets its contract: the point's place says which of the two cases it is.
use Prim.Native.Nat.{◌-◌, ◌<◌, ◌≤◌}
use native.Mathlib.Omega.{arith}
use mathlib.Core.Path.{◌≡◌, ap, ◌∙◌}
use mathlib.Core.Logic.{inl}
use mathlib.Core.List.{List}
use lib.ListN.{length-take}
use lib.IntN.{ℤ}
use borrow.Author.Rules.{rules}
use borrow.Author.Tests.{tests}
use Rattle.std.specs.Prelude.{position}
use Rattle.std.specs.List.{position_or_len}
use Rattle.std.proofs.lemmas.Iterator.Search.{position_from_yields_List}
use Rattle.plane.specs.Words.{origin, points_of, same, eq_z}
use Rattle.plane.proofs.Arrays.{points-take}
use Rattle.checks.proofs.Scans.{points-given}
use Rattle.panbuckle.specs.Inner.{held, put}
use Rattle.panbuckle.proofs.Scan.{held-length}
use Rattle.panbuckle.proofs.Toggling.{at-place, at_none, place-is, toggle-present, absent_more, toggle-absent}
use Rattle.panbuckle.proofs.toggled.Goals as goal
use Rattle.panbuckle.proofs.toggled.Goals.{After-position-place, In-Some, In_default}

pub position-place-requires-clause-fits : goal.position-place-requires-clause-fits
position-place-requires-clause-fits c = inl (rw (c.points_in.ensures, points-take) (omega (arith, length-take c.args.n (points_of c.args.a.now))))

-- the place that is found
found : (c : After-position-place) → c.position-place.result ≡ position (same c.args.p) (held c.args.n c.args.a.now)
unfolding same eq_z
found c = position_from_yields_List (same c.args.p) c.position-place.new.self _ _ c.position-place.ensures.ran (rw points-take at (points-given {s = c.points_in.result} _ c.points_in.ensures)) (λ x b q k. search (rules, tests))

-- it is one of the points'
present : (c : In-Some) → let ps = held c.args.n c.args.a.now in (c.in-Some.i ≡ position_or_len (same c.args.p) ps) × (c.in-Some.i < c.args.n)
present c =
    let h = at-place (same c.args.p) (held c.args.n c.args.a.now) (found (goal.at-In-Some c).After-position-place) c.in-Some.is in
    (h.0, omega (arith, h.1, held-length c.args.n c.args.a.now c.requires.0))

-- or none
absent : (c : In_default) → c.args.n ≤ position_or_len (same c.args.p) (held c.args.n c.args.a.now)
absent c =
    omega (arith, at_none (same c.args.p) (held c.args.n c.args.a.now) (found (goal.at-In_default c).After-position-place) c.in_default.is, held-length c.args.n c.args.a.now c.requires.0)

pub put_point-requires : goal.put_point-requires
put_point-requires c =
    let r = c.args in
    omega (arith, absent_more r.n r.a.now r.p c.requires.0 _ (place-is r.p (held r.n r.a.now)) (absent (goal.at.put_point-requires c).In_default))

pub returns-in_default : goal.returns-in_default
returns-in_default c =
    let r = c.args in
    let e = toggle-absent r.n r.a.now r.p c.requires.0 _ (place-is r.p (held r.n r.a.now)) (absent (goal.at.returns-in_default c).In_default) c.requires.1 in
    record { value = e.0; a_after = c.put_point.ensures ∙ e.1 }

pub overflow_sub-last : goal.overflow_sub-last
overflow_sub-last c = omega (arith, present c)

pub put_point-requires-3 : goal.put_point-requires-3
put_point-requires-3 c = omega (arith, present (goal.at.put_point-requires-3 c).In-Some)

pub put_point-requires-2 : goal.put_point-requires-2
put_point-requires-2 c = omega (arith, present (goal.at.put_point-requires-2 c).In-Some)

pub returns : goal.returns
returns c =
    let r = c.args in
    let p = present (goal.at.returns c).In-Some in
    let zero : c.default.result ≡ origin = search rules in
    let e = toggle-present r.n r.a.now r.p c.requires.0 c.in-Some.i (p.0 ∙ place-is r.p (held r.n r.a.now)) p.1 c.point_at-moved.ensures zero in
    record { value = e.0; a_after = c.put_point-3.ensures ∙ ap (λ (b : List ℤ). put b (r.n - 1) c.default.result) c.put_point-2.ensures ∙ e.1 }
