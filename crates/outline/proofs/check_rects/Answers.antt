-- `outline::check_rects` meets its contract: each check refuses, or passes to the next.
use Prim.Native.Nat.{ℕ, ◌*◌, ◌/◌, ◌%◌, ◌≤◌}
use native.Mathlib.Omega.{arith}
use mathlib.Core.Path.{◌≡◌, ap, ◌∙◌}
use mathlib.Core.Logic.{inl}
use mathlib.Core.Bool.{Bool, not, cond}
use mathlib.Core.List.{List, [], ◌∷◌}
use lib.ListN.{length}
use lib.IntN.{ℤ}
use lib.Dec.{eqb, ltb}
use borrow.Author.Rules.{rules}
use borrow.Author.Tests.{tests, lt-ltb, le-ltb, eq-eqb, ne_eqb}
use Rattle.std.specs.Prelude.{Some, None}
use Rattle.std.specs.List.{position_or_len}
use Rattle.std.proofs.lemmas.Iterator.Consumers.{YieldsList-from_first}
use Rattle.std.proofs.lemmas.Iterator.Search.{position_from_yields_List}
use Rattle.plane.specs.declared.Rect.{Rect}
use Rattle.plane.specs.Words.{flat, rect_in_range, rects_of, rect_size, most_rects}
use Rattle.plane.proofs.Arrays.{length-rects}
use Rattle.entry.specs.Checks.{Check, refused, verdict}
use Rattle.entry.proofs.Verdicts.{accepted-clear, verdict-whole}
use Rattle.rule.specs.BackwardCall.{backward_points, backward_checks}
use Rattle.rule.specs.Rows.{FLAT, RANGE-rects, ROOM}
use Rattle.rule.proofs.Rows.{room-clear}
use Rattle.rule.proofs.BackwardCall.{backward-accepted}
use Rattle.outline.proofs.Looking.{found-refused, none-passes}
use Rattle.outline.proofs.check_rects.Goals as goal
use Rattle.outline.proofs.check_rects.Goals.{After-position, After-position-2}

-- the last check, and the last two
abbrev last : (a : List ℤ) (out : ℕ) → List Check
last a out = ROOM (length (backward_points a)) (out / 2) ∷ []

abbrev last_two : (a : List ℤ) (out : ℕ) → List Check
last_two a out = RANGE-rects (rects_of a) ∷ last a out

-- the first two refuse, or pass to the others
backward-verdict : (a : List ℤ) (out : ℕ) → verdict (backward_checks a out) ≡ cond (not (eqb (length a % rect_size) 0)) (refused 1 0) (cond (ltb most_rects (length a / rect_size)) (refused 2 0) (verdict (FLAT (rects_of a) ∷ last_two a out)))
unfolding backward_checks
backward-verdict a out = rw (verdict-whole, verdict-whole)

pub returns-then-rects-ne0 : goal.returns-then-rects-ne0
returns-then-rects-ne0 c out = rw (c.at.ensures, backward-verdict, ne_eqb (length c.args.rects.now % rect_size) 0 c.if-rects-ne0.true)

pub returns-then-rects-gt-MOST_RECTS : goal.returns-then-rects-gt-MOST_RECTS
returns-then-rects-gt-MOST_RECTS c out = rw (c.at-then-rects-gt-MOST_RECTS.ensures, backward-verdict, eq-eqb (length c.args.rects.now % rect_size) 0 c.if-rects-ne0.false, lt-ltb most_rects (length c.args.rects.now / rect_size) c.if-rects-gt-MOST_RECTS.true)

-- past them
past_two : (a : List ℤ) (out : ℕ) → length a % 4 ≡ 0 → length a / 4 ≤ 16384 → verdict (backward_checks a out) ≡ verdict (FLAT (rects_of a) ∷ last_two a out)
past_two a out e h = rw (backward-verdict, eq-eqb (length a % rect_size) 0 e, le-ltb most_rects (length a / rect_size) h)

pub position-requires-clause-fits : goal.position-requires-clause-fits
position-requires-clause-fits c = inl (rw c.rects_in.ensures (omega (arith, length-rects c.args.rects.now)))

pub position-requires-2-clause-fits : goal.position-requires-2-clause-fits
position-requires-2-clause-fits c = inl (rw c.rects_in-2.ensures (omega (arith, length-rects c.args.rects.now)))

-- what the searches find
first_flat : (c : After-position) → let rs = rects_of c.args.rects.now in c.position.result ≡ cond (ltb (position_or_len flat rs) (length rs)) (Some (position_or_len flat rs)) None
first_flat c =
    position_from_yields_List flat c.position.new.self _ _ c.position.ensures.ran (YieldsList-from_first (λ r. r) (λ s. rects_of s.rest.now) {s = c.rects_in.result} (rects_of c.args.rects.now) (ap rects_of c.rects_in.ensures)) (λ x b q k. search (rules, tests))

abbrev far : Rect → Bool
far r = not (rect_in_range r)

first_far : (c : After-position-2) → let rs = rects_of c.args.rects.now in c.position-2.result ≡ cond (ltb (position_or_len far rs) (length rs)) (Some (position_or_len far rs)) None
first_far c =
    position_from_yields_List far c.position-2.new.self _ _ c.position-2.ensures.ran (YieldsList-from_first (λ r. r) (λ s. rects_of s.rest.now) {s = c.rects_in-2.result} (rects_of c.args.rects.now) (ap rects_of c.rects_in-2.ensures)) (λ x b q k. search (rules, tests))

pub returns-in-Some : goal.returns-in-Some
returns-in-Some c out =
    let a = c.args.rects.now in
    rw c.at-in-Some.ensures (past_two a out c.if-rects-ne0.false c.if-rects-gt-MOST_RECTS.false
    ∙ found-refused 9 flat _ (rects_of a) (last_two a out) c.in-Some.is (first_flat (goal.at.returns-in-Some c).After-position))

-- past FLAT
past_three : (c : After-position-2) (out : ℕ) → verdict (backward_checks c.args.rects.now out) ≡ verdict (last_two c.args.rects.now out)
past_three c out =
    let a = c.args.rects.now in
    past_two a out c.if-rects-ne0.false c.if-rects-gt-MOST_RECTS.false
    ∙ none-passes 9 flat _ (rects_of a) (last_two a out) c.in_default.is (first_flat (goal.at-After-position-2 c).After-position)

pub returns-in-Some-position : goal.returns-in-Some-position
returns-in-Some-position c out =
    let a = c.args.rects.now in
    let s = (goal.at.returns-in-Some-position c).After-position-2 in
    rw c.at-in-Some-position.ensures (past_three s out ∙ found-refused 4 far _ (rects_of a) (last a out) c.in-Some-position.is (first_far s))

pub returns : goal.returns
returns c =
    let a = c.args.rects.now in
    let n : ℕ = length (backward_points a) in
    let s = (goal.at.returns c).After-position-2 in
    (backward-accepted a (2 * n)).0 (past_three s (2 * n) ∙ none-passes 4 far _ (rects_of a) (last a (2 * n)) c.in_default-position.is (first_far s) ∙ (accepted-clear _).1 ((room-clear n (2 * n / 2)).1 (omega arith), tt))
