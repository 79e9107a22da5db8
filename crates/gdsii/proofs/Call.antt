-- What the checks of the call say, of what the walk gathered.
use mathlib.Core.Path.{◌≡◌, refl, sym, ap, ap₂, subst, ◌∙◌}
use Prim.Native.Nat.{ℕ, zero, suc, ◌+◌, ◌-◌, ◌*◌, ◌/◌, ◌≤◌, ◌<◌}
use native.Mathlib.Omega.{arith}
use mathlib.Core.Bool.{Bool, true, false, not, cond}
use mathlib.Core.List.Memᴰ.{append_left}
use mathlib.Core.List.Memᴰ.{append_right}
use mathlib.Core.List.Memᴰ.{head}
use mathlib.Core.List.Memᴰ.{tail}
use mathlib.Core.List.{List, [], ◌∷◌, Memᴰ as In}
use lib.ListN.{length, take, length-append}
use lib.IntN.{ℤ}
use lib.Dec.{ltb}
use borrow.Author.Tests.{le-leb, lt-ltb, le-ltb}
use Rattle.plane.specs.declared.Point.{Point}
use Rattle.plane.specs.Words.{most_points, origin, flat_points, point_in_range, marks, cells}
use Rattle.plane.specs.Remaining.{Balanced}
use Rattle.plane.proofs.Arrays.{points-flat}
use Rattle.plane.proofs.Places.{all_pass}
use Rattle.entry.specs.Checks.{Check, Verdict, accepted, refused, whole, met, first_said, judged, or_later, verdict}
use Rattle.entry.proofs.Verdicts.{verdict-none, verdict-whole, verdict-passes, verdict-after, verdict-append}
use Rattle.entry.specs.Entry.{counted, written, Done, Counted}
use Rattle.entry.proofs.Entry.{refused-done}
use Rattle.rule.specs.Rows.{MANY, RANGE, ROW, COLUMN, ROOM, balance_checks, few_then}
use Rattle.rule.proofs.Rows.{many-clear, balance-clear, balance-accepted}
use Rattle.boundaries.specs.Boundary.{boundary_corners, handed_on, overlaps}
use Rattle.boundaries.specs.Inner.{add_capped}
use Rattle.boundaries.proofs.Rays.{corners-balanced}
use Rattle.boundaries.proofs.Handed.{corners_area, Shapes, shapes-none, shapes-with, handed-balanced}
use Rattle.boundaries.proofs.Capped.{areas_from, overlaps-capped}
use Rattle.gdsii.specs.declared.Cursor.{Cursor}
use Rattle.gdsii.specs.Walk.{Judged, Refused, Over, Passed, Boundary, judge, Outcome, stopped, walked, before, onward, start, read_from, read_all}
use Rattle.gdsii.specs.Call.{corners_in, ABSENT, OVERLAP, read_checks, scratch_size}
use Rattle.gdsii.specs.Inner.{Gathering, Stopped, put_points, marked_in, area_with, area_from, gathered, Filled, hand_checks, HandedOn, ReadSays}
use Rattle.gdsii.proofs.Walk.{boundary-ahead}
use Rattle.gdsii.proofs.Corners.{put-points-length, put-points-there}
use Rattle.gdsii.proofs.Gathering.{stopped-says, Ended}

-- ---- Boundaries that are read are closed and not slanted

abbrev Fair : Outcome → Type 0
Fair (stopped k p) = Unit {0}
Fair (walked f bs) = Shapes bs

module _ (name : List ℕ) (layer : ℤ) where
  onward-fair : (c : Cursor) (t : List ℕ) (rest : Cursor → Outcome) → ((d : Cursor) → Fair (rest d)) → (j : Judged) → judge name layer c t ≡ j → Fair (onward j c.at rest)
  onward-fair c t rest ih (Refused k) e = tt
  onward-fair c t rest ih (Over f) e = shapes-none
  onward-fair c t rest ih (Passed d) e = ih d
  onward-fair c t rest ih (Boundary vs d) e = more (rest d) (ih d)
    where
      more : (o : Outcome) → Fair o → Fair (before vs o)
      more (stopped k p) h = tt
      more (walked f bs) h = let s = boundary-ahead name layer c t e in shapes-with s.2 s.3 h

  read-fair : (c : Cursor) (skip : ℕ) (t : List ℕ) → Fair (read_from name layer c skip t)
  unfolding read_from
  read-fair c skip [] = tt
  read-fair c (suc k) (b ∷ bs) = read-fair c k bs
  read-fair c zero (b ∷ bs) = onward-fair c (b ∷ bs) (λ d. read_from name layer d (d.at - c.at - 1) bs) (λ d. read-fair d (d.at - c.at - 1) bs) (judge name layer c (b ∷ bs)) refl

  pub read-shapes : (t : List ℕ) {f : Bool} {bs : List (List Point)} → read_all name layer t ≡ walked f bs → Shapes bs
  unfolding read_all
  read-shapes t e = subst Fair e (read-fair start 0 t)

-- ---- The sum of the areas, where all corners have places and are in range

-- corners in range mark as many cells as is counted
counted-cells : (vs : List Point) → Balanced (boundary_corners vs) → length (boundary_corners vs) ≤ most_points → marked_in (boundary_corners vs) ≡ corners_area vs
counted-cells vs b few = rw ((balance-accepted (boundary_corners vs)).1 (few, b))

areas-same : (bs : List (List Point)) → Shapes bs → ((p : Point) → In p (handed_on bs) → point_in_range p ≡ true) → (n area : ℕ) → n + length (handed_on bs) ≤ most_points → area_from n area bs ≡ areas_from area bs
unfolding handed_on area_from areas_from area_with
areas-same [] s within n area few = refl
areas-same (vs ∷ bs) s within n area few =
    let ps : List Point = boundary_corners vs in
    let long = length-append ps (handed_on bs) in
    let balanced = corners-balanced vs (s.shut vs (head refl)) (s.square vs (head refl)) (λ p m. within p (append_left (handed_on bs) m)) in
    let one : area_with n (length ps) area ps ≡ add_capped area (corners_area vs) = rw (le-leb (n + length ps) most_points (omega arith)) (ap (add_capped area) (counted-cells vs balanced (omega arith))) in
    ap (λ (m : ℕ). area_from (n + length ps) m bs) one
    ∙ areas-same bs (record { shut = λ us m. s.shut us (tail m); square = λ us m. s.square us (tail m) }) (λ p m. within p (append_right ps m)) (n + length ps) (add_capped area (corners_area vs)) (omega arith)

-- ---- What the checks say

-- of a walk to the end: ABSENT, MANY, and the checks from RANGE on
abbrev last_checks : List (List Point) → (out : ℕ) → List Check
last_checks bs out = RANGE (handed_on bs) ∷ OVERLAP bs ∷ ROOM (length (handed_on bs)) (out / 2) ∷ []

pub read-verdict : (f : Bool) (bs : List (List Point)) (out : ℕ) → verdict (read_checks (walked f bs) out) ≡ cond (not f) (refused 16 0) (cond (ltb most_points (length (handed_on bs))) (refused 2 0) (verdict (last_checks bs out)))
unfolding read_checks
read-verdict f bs out = verdict-passes (met []) (ABSENT f ∷ MANY most_points (length (handed_on bs)) ∷ last_checks bs out) tt ∙ rw (verdict-whole, verdict-whole)

pub stopped-verdict : (k p out : ℕ) → verdict (read_checks (stopped k p) out) ≡ refused k p
unfolding read_checks verdict judged first_said
stopped-verdict k p out = refl

-- the code's checks of points: those of the points themselves, and then OVERLAP by the sum of the areas, and ROOM
pub points-verdict : (ps : List Point) (area out : ℕ) → verdict (hand_checks ps area out) ≡ or_later (verdict (few_then balance_checks ps)) (cond (ltb (cells (marks ps)) area) (refused 17 0) (cond (ltb (out / 2) (length ps)) (refused 8 (length ps)) accepted))
unfolding hand_checks balance_checks
points-verdict ps area out =
    let last = whole 17 0 (ltb (cells (marks ps)) area) ∷ ROOM (length ps) (out / 2) ∷ [] in
    verdict-append (few_then balance_checks ps) last ∙ ap (or_later (verdict (few_then balance_checks ps))) (rw (verdict-whole, verdict-whole, verdict-none))

-- the code's checks of the corners say the same: no row and no column is odd, and the areas tell whether two boundaries overlap
pub hand-verdict : (bs : List (List Point)) (out : ℕ) → Shapes bs → length (handed_on bs) ≤ most_points → verdict (hand_checks (handed_on bs) (area_from 0 0 bs) out) ≡ verdict (last_checks bs out)
unfolding hand_checks balance_checks
hand-verdict bs out s few =
    verdict-passes (MANY most_points (length ps)) _ ((many-clear most_points (length ps)).1 few)
    ∙ verdict-after (RANGE ps) _ _ (λ clear. even ((all_pass point_in_range ps origin).0 clear))
  where
    ps : List Point
    ps = handed_on bs

    even : ((p : Point) → In p ps → point_in_range p ≡ true) → verdict (ROW ps ∷ COLUMN ps ∷ whole 17 0 (ltb (cells (marks ps)) (area_from 0 0 bs)) ∷ ROOM (length ps) (out / 2) ∷ []) ≡ verdict (OVERLAP bs ∷ ROOM (length ps) (out / 2) ∷ [])
    even within =
        let clear = (balance-clear ps).1 (handed-balanced bs s within) in
        let told : overlaps bs ≡ ltb (cells (marks ps)) (area_from 0 0 bs) = overlaps-capped bs s ∙ ap (ltb (cells (marks ps))) (sym (areas-same bs s within 0 0 (omega arith))) in
        verdict-passes (ROW ps) _ clear.1.0 ∙ verdict-passes (COLUMN ps) _ clear.1.1.0
        ∙ ap (λ (t : Bool). verdict (whole 17 0 t ∷ ROOM (length ps) (out / 2) ∷ [])) (sym told)

-- ---- What is answered and written, of what was gathered

module _ (o : Outcome) (out : List ℤ) where
  pub stopped-read : {g : Gathering} {k p : ℕ} {r : Counted} → g ≡ gathered o 0 0 → g ≡ Stopped k p → r ≡ counted (refused k p) 0 → ReadSays o out r out
  stopped-read {k = k} {p} e d says = refused-done says (ap (λ (u : Outcome). verdict (read_checks u (length out))) (stopped-says o (sym e ∙ d)) ∙ stopped-verdict k p (length out))

  module _ {f : Bool} {n area : ℕ} (w : Ended o f n area) where
    ended-verdict : verdict (read_checks o (length out)) ≡ cond (not f) (refused 16 0) (cond (ltb most_points n) (refused 2 0) (verdict (last_checks w.boundaries (length out))))
    ended-verdict = ap (λ (u : Outcome). verdict (read_checks u (length out))) w.outcome ∙ read-verdict f w.boundaries (length out) ∙ rw (← w.count)

    pub absent-read : {r : Counted} → f ≡ false → r ≡ counted (refused 16 0) 0 → ReadSays o out r out
    absent-read e says = refused-done says (rw (ended-verdict, e))

    pub many_read : {r : Counted} → f ≡ true → most_points < n → r ≡ counted (refused 2 0) 0 → ReadSays o out r out
    many_read e m says = refused-done says (rw (ended-verdict, e, lt-ltb most_points n m))

    pub handed-read : {points : List ℤ} {r : Counted} {after : List ℤ} → f ≡ true → n ≤ most_points → Shapes w.boundaries → points ≡ flat_points (handed_on w.boundaries) → HandedOn points area out r after → ReadSays o out r after
    handed-read {points} {r} {after} e few s flat d = record { answer = told.answer ∙ ap₂ counted same (ap length corners); output = told.output ∙ ap₂ (λ (v : Verdict) (l : List ℤ). written v l out) same (ap flat_points corners) }
      where
        ps : List Point
        ps = handed_on w.boundaries

        corners : ps ≡ corners_in o
        corners = ap corners_in (sym w.outcome)

        same : verdict (hand_checks ps (area_from 0 0 w.boundaries) (length out)) ≡ verdict (read_checks o (length out))
        same = hand-verdict w.boundaries (length out) s (omega (arith, w.count)) ∙ sym (ended-verdict ∙ rw (e, le-ltb most_points n few))

        told : Done (hand_checks ps (area_from 0 0 w.boundaries) (length out)) (length ps) (flat_points ps) out r after
        told = rw (flat, points-flat ps, w.sum) at d

-- the corners in the array, where they have places
pub corners-there : {o : Outcome} {f : Bool} {n area : ℕ} (w : Ended o f n area) (a after : List ℤ) → length a ≡ scratch_size → Filled o 0 a after → n ≤ most_points → take (2 * n) after ≡ flat_points (handed_on w.boundaries)
corners-there {o} {f} {n} w a after sized filled few =
    let there : after ≡ put_points a 0 (handed_on w.boundaries) = subst (λ (u : Outcome). Filled u 0 a after) w.outcome filled in
    rw (there, w.count) (put-points-there a 0 (handed_on w.boundaries) (omega (arith, w.count)))

-- stopped or not, its length stays
pub filled-length : (o : Outcome) (a after : List ℤ) → Filled o 0 a after → length after ≡ length a
filled-length (stopped k p) a after h = h
filled-length (walked f bs) a after h = ap length h ∙ put-points-length a 0 (handed_on bs)
