-- `gdsii::Reader::gather` meets its contract.
use Prim.Native.Nat.{ℕ, ◌+◌, ◌*◌, ◌≤◌}
use native.Mathlib.Omega.{arith}
use mathlib.Core.Path.{◌≡◌, refl, sym, ap, ap₂, subst, ◌∙◌}
use mathlib.Core.List.{List, []}
use lib.ListN.{length, take, drop}
use lib.IntN.{ℤ}
use Rattle.std.specs.Prelude.{Ok}
use Rattle.plane.specs.declared.Point.{Point}
use Rattle.plane.specs.Words.{points_of, most_cells}
use Rattle.boundaries.specs.Boundary.{boundary_corners, handed_on}
use Rattle.gdsii.specs.declared.Cursor.{Cursor}
use Rattle.gdsii.specs.declared.Reader.{Reader}
use Rattle.gdsii.specs.Walk.{Outcome, stopped, walked, before, start, read_all}
use Rattle.gdsii.specs.Call.{scratch_size}
use Rattle.gdsii.specs.Inner.{vertices_left, walk_from, whole_walk, resume, Ready, Usable, put_points, area_with, area_from, Stopped, Whole, told_gathered, gathered, Filled}
use Rattle.gdsii.proofs.Corners.{put-points-length, put-none}
use Rattle.gdsii.proofs.Gathering.{area-put, gathered_next, filled_next}
use Rattle.entry.proofs.Reasons.{passed-up}
use Rattle.gdsii.proofs.Reader.gather.Invariants.{Going}
use Rattle.gdsii.proofs.Reader.gather.Goals as goal
use Rattle.gdsii.proofs.Reader.gather.Goals.{In_default, In-Some}

-- with the corners of a boundary put into the array, and their area added
going_on : (vs : List Point) (n k area area' : ℕ) {whole rest next : Outcome} {first : List ℤ} (a : List ℤ) {a' : List ℤ} → before vs next ≡ rest → k ≡ length (boundary_corners vs) → a' ≡ put_points a n (boundary_corners vs) → area' ≡ area_with n k area (points_of (take (2 * k) (drop (2 * n) a'))) → area' ≤ 2 * most_cells → Going whole rest first a n area → Going whole next first a' (n + k) area'
going_on vs n k area area' {whole} {rest} {next} {first} a {a'} e counted put summed capped g =
    let ps : List Point = boundary_corners vs in
    let sum : area' ≡ area_with n (length ps) area ps = summed ∙ rw (counted, put) (area-put a n area ps g.sized) in
    record {
      sized = ap length put ∙ put-points-length a n ps ∙ g.sized;
      capped = capped;
      gathers = ap₂ (λ (m s : ℕ). gathered next (n + m) s) counted sum ∙ gathered_next vs next n area ∙ ap (λ (o : Outcome). gathered o n area) e ∙ g.gathers;
      fills = λ after h. g.fills after (subst (λ (o : Outcome). Filled o n a after) e (filled_next vs next n a after (rw (counted, put) at h)));
    }

-- before the first record
begins : (s : Reader) (c : Cursor) {a : List ℤ} → c ≡ start → length a ≡ scratch_size → Going (whole_walk s) (walk_from s c) a a 0 0
unfolding read_all
begins s c {a} e sized = rw e (record { sized = sized; capped = omega arith; gathers = refl; fills = λ after h. h })

pub loop-outline-init : goal.loop-outline-init
loop-outline-init c = (rw c.start-c.ensures (omega arith), omega arith, begins c.args.self.now c.start-c.result c.start-c.ensures c.requires)

-- where the walk is stopped
stops : {whole rest : Outcome} {first a : List ℤ} {n area k p : ℕ} → Going whole rest first a n area → stopped k p ≡ rest → (Stopped k p ≡ gathered whole 0 0) × Filled whole 0 first a
stops {whole} {rest} {first} {a} {n} {area} g e = (ap (λ (o : Outcome). gathered o n area) e ∙ g.gathers, g.fills a (rw (sym e) refl))

pub returns-in_err-outline-clause-value : goal.returns-in_err-outline-clause-value
returns-in_err-outline-clause-value c = ap told_gathered (passed-up c.from_residual.result _ c.from_residual.ensures.1) ∙ (stops c.loop-outline.invariant.2 c.in_err-outline.ensures.result_value).0

pub returns-in_err-outline-clause-filled : goal.returns-in_err-outline-clause-filled
returns-in_err-outline-clause-filled c = (stops c.loop-outline.invariant.2 c.in_err-outline.ensures.result_value).1

-- where it ends
ends : (c : In_default) → (Whole c.in_ok-outline.next.found c.loop-outline.count c.loop-outline.area ≡ gathered (whole_walk c.args.self.now) 0 0) × Filled (whole_walk c.args.self.now) 0 c.args.a.now c.loop-outline.a
unfolding area_from handed_on
ends c =
    let l = c.loop-outline in
    let g = l.invariant.2 in
    let e : walked c.in_ok-outline.next.found [] ≡ walk_from c.args.self.now l.c = ap (λ o. resume c.args.self.now (Ok (o, c.in_ok-outline.next))) (sym c.in_default.is) ∙ c.in_ok-outline.ensures.result_value in
    let none : l.count ≡ l.count + 0 = omega arith in
    (ap (λ (m : ℕ). Whole c.in_ok-outline.next.found m l.area) none ∙ ap (λ (o : Outcome). gathered o l.count l.area) e ∙ g.gathers, g.fills l.a (rw (sym e) (sym (put-none l.a l.count))))

pub returns-in_default-clause-value : goal.returns-in_default-clause-value
returns-in_default-clause-value c = (ends (goal.at.returns-in_default-clause-value c).In_default).0

pub returns-in_default-clause-filled : goal.returns-in_default-clause-filled
returns-in_default-clause-filled c = (ends (goal.at.returns-in_default-clause-filled c).In_default).1

-- the boundary that is met
met : (c : In-Some) → let s = c.args.self.now in (before (vertices_left c.in-Some.vertices) (walk_from s c.in_ok-outline.next) ≡ walk_from s c.loop-outline.c) × Ready s.bytes.now c.loop-outline.c (vertices_left c.in-Some.vertices) c.in_ok-outline.next
met c =
    let s = c.args.self.now in
    (ap (λ o. resume s (Ok (o, c.in_ok-outline.next))) (sym c.in-Some.is) ∙ c.in_ok-outline.ensures.result_value, subst (λ o. Usable s c.loop-outline.c (Ok (o, c.in_ok-outline.next))) c.in-Some.is c.in_ok-outline.ensures.usable)

pub put_corners-k-requires-clause-fits : goal.put_corners-k-requires-clause-fits
put_corners-k-requires-clause-fits c =
    let h = met (goal.at.put_corners-k-requires-clause-fits c).In-Some in
    omega (arith, h.1.ahead, h.1.within)

pub add_area-area-requires : goal.add_area-area-requires
add_area-area-requires c =
    let h = met (goal.at.add_area-area-requires c).In-Some in
    let g = c.loop-outline.invariant.2 in
    (ap length c.put_corners-k.ensures.a_after ∙ put-points-length _ _ _ ∙ g.sized, omega (arith, c.put_corners-k.ensures.value.1, h.1.ahead, h.1.within), g.capped)

pub overflow_add-count : goal.overflow_add-count
overflow_add-count c =
    let h = met (goal.at.overflow_add-count c).In-Some in
    record { fits = omega (arith, c.put_corners-k.ensures.value.1, h.1.ahead, h.1.within) }

pub loop-outline-preserved : goal.loop-outline-preserved
loop-outline-preserved c =
    let h = met (goal.at.loop-outline-preserved c).In-Some in
    let l = c.loop-outline in
    (h.1.within, omega (arith, c.put_corners-k.ensures.value.1, h.1.ahead), going_on _ l.count _ l.area _ l.a h.0 c.put_corners-k.ensures.value.0 c.put_corners-k.ensures.a_after c.add_area-area.ensures.value c.add_area-area.ensures.upper_bound l.invariant.2)
