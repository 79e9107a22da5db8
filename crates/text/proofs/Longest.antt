-- The longest answer fits its buffer: a line of the sums has at most 79 bytes, each of at most 3,200 rectangles a line of at most 48, and a
-- refusal at most 64.
use Prim.Native.Nat.{ℕ, suc, ◌*◌, ◌^◌, ◌≤◌, ◌<◌}
use native.Mathlib.Nat.{mul-le-mul_left, mul-le-mul_right}
use native.Mathlib.Omega.{arith}
use mathlib.Core.Path.{◌≡◌, refl}
use mathlib.Core.Bool.{Bool, true, false, cond}
use mathlib.Core.List.Memᴰ.{head}
use mathlib.Core.List.Memᴰ.{tail}
use mathlib.Core.List.{List, [], ◌∷◌, Memᴰ as In}
use Rattle.std.specs.Prelude.{Option, None, Some}
use lib.ListN.{length, length-append}
use lib.IntN.{ℤ, ◌+ℤ◌}
use lib.Signed.{mag}
use lib.Dec.{eqb}
use Rattle.plane.specs.declared.Point.{Point}
use Rattle.plane.specs.declared.Rect.{Rect}
use Rattle.plane.specs.Words.{in_range, right, top, rect_in_range, points_of}
use Rattle.plane.specs.Remaining.{remaining}
use Rattle.plane.proofs.Bools.{and-four}
use Rattle.plane.proofs.Order.{add-up, mag-most, range-up, range-most}
use Rattle.plane.proofs.Arrays.{length-points, points-flat}
use Rattle.entry.specs.Checks.{by_whole, FirstGiven, this, later, Verdict, accepted, refused, verdict}
use Rattle.entry.proofs.Verdicts.{PlacesWithin, place-within, clear-exactly, refused-exactly}
use Rattle.plane.proofs.Remaining.{remaining-few}
use Rattle.rule.specs.Rule.{rule_list}
use Rattle.rule.specs.Rows.{MANY, balance_checks}
use Rattle.rule.specs.declared.Sums.{Sums}
use Rattle.rule.specs.ForwardCall.{forward_checks, ForwardAccepted, points_remaining, forward_list, forward_sums, input_checks}
use Rattle.rule.proofs.Rows.{many-clear}
use Rattle.rule.proofs.Bound.{rule-most}
use Rattle.rule.proofs.Rising.{rule-rects}
use Rattle.rule.proofs.Remaining.{remaining-accepted}
use Rattle.rule.proofs.Area.{rule-area-most, rule-edge-most}
use Rattle.numerals.proofs.Printing.{decimal-length, signed-length}
use Rattle.reading.specs.Lines.{Line, onto, lines_of, line_point, with_point, points_in}
use Rattle.reading.specs.Reading.{points_read, text_checks}
use Rattle.text.specs.Program.{most_work, most_list, program_checks, sums_line, rect_line, rect_lines, list_lines, printed, program_prints, numbers_read, most_listed}
use Rattle.text.proofs.Lines.{refusal-length}
use Rattle.text.proofs.Checks.{program-accepts, program-number}

-- ---- A list

sums-length : (s : Sums) → s.count < 10 ^ 20 → s.area < 10 ^ 20 → s.edge < 10 ^ 20 → length (sums_line s) ≤ 79
unfolding sums_line
sums-length s h i j = simp length-append (omega (arith, decimal-length 19 s.count h, decimal-length 19 s.area i, decimal-length 19 s.edge j))

-- a side of which both ends are in range
side-most : (a b : ℤ) → in_range a ≡ true → in_range (a +ℤ b) ≡ true → mag b ≤ 2_000_000_000
side-most a b e f =
    let g = range-up a e in
    let h = range-up (a +ℤ b) f in
    let s = add-up a b in
    mag-most b 2_000_000_000 (omega arith) (omega arith)

rect-length : (r : Rect) → rect_in_range r ≡ true → length (rect_line r) ≤ 48
unfolding rect_line rect_in_range
rect-length r e =
    let h = and-four (in_range r.x) (in_range r.y) (in_range (right r)) (in_range (top r)) e in
    let x = signed-length r.x (omega (arith, range-most r.x h.0)) in
    let y = signed-length r.y (omega (arith, range-most r.y h.1)) in
    let w = signed-length r.w (omega (arith, side-most r.x r.w h.0 h.2)) in
    let z = signed-length r.h (omega (arith, side-most r.y r.h h.1 h.3)) in
    simp length-append (omega arith)

rects-length : (rs : List Rect) → ((r : Rect) → In r rs → rect_in_range r ≡ true) → length (rect_lines rs) ≤ 48 * length rs
unfolding rect_lines
rects-length [] h = omega arith
rects-length (r ∷ rs) h = simp length-append (omega (arith, rect-length r (h r (head refl)), rects-length rs (λ s n. h s (tail n))))

-- a list of what forward accepts with room for 3,200 rectangles
pub list-fits : (a : List ℤ) (work : ℕ) → ForwardAccepted a work most_list → length (list_lines (forward_sums a) (forward_list a)) ≤ 153_679
unfolding list_lines
list-fits a work c =
    let few : (forward_sums a).count ≤ most_listed = c.room in
    let ps = points_remaining a in
    let acc = remaining-accepted (points_of a) c.points in
    let sums = sums-length (forward_sums a) (omega arith) (omega (arith, rule-area-most ps acc)) (omega (arith, rule-edge-most ps acc, remaining-few (points_of a), length-points a, c.few)) in
    let lines = rects-length (forward_list a) (rule-rects ps acc).range in
    simp length-append (omega arith)

-- ---- A refusal's place

-- a text has no more lines than bytes, and no more points than lines
onto-length : (b : ℕ) (ls : List Line) → length (onto b ls) ≤ suc (length ls)
onto-length b [] = omega arith
onto-length b (l ∷ ls) = omega arith

lines-length : (t : List ℕ) → length (lines_of t) ≤ length t
unfolding lines_of
lines-length [] = omega arith
lines-length (b ∷ bs) = go (eqb b 10) (lines-length bs)
  where
    go : (new : Bool) → length (lines_of bs) ≤ length bs → length (cond new (record { bytes = []; ended = true } ∷ lines_of bs) (onto b (lines_of bs))) ≤ suc (length bs)
    go true h = omega arith
    go false h = omega (arith, onto-length b (lines_of bs))

points-length : (ls : List Line) → length (points_in ls) ≤ length ls
unfolding points_in
points-length [] = omega arith
points-length (l ∷ ls) = go (line_point l) (points-length ls)
  where
    go : (o : Option Point) → length (points_in ls) ≤ length ls → length (with_point o (points_in ls)) ≤ suc (length ls)
    go None h = omega arith
    go (Some p) h = omega arith

-- the program's places are those of lines and points, of which there are at most 65,536, or the length of a list
program-within : (t : List ℕ) → length t ≤ 65_536 → PlacesWithin (2 ^ 32) (program_checks t)
unfolding program_checks text_checks forward_checks input_checks balance_checks
program-within t h =
    let ps = points_read t in
    let left = remaining ps in
    let lines = lines-length t in
    let points = points-length (lines_of t) in
    let list : length (rule_list left) ≤ 2 ^ 32 = omega (arith, rule-most left, square-most (length left) (omega (arith, remaining-few ps))) in
    rw (points-flat ps) (omega arith)
  where
    square-most : (n : ℕ) → n ≤ 65_536 → n * n ≤ 2 ^ 32
    square-most n h = omega (arith, mul-le-mul_left n h, mul-le-mul_right 65_536 h)

-- whatever is refused, the place is a number of 32 bits, or the next
pub place-small : (t : List ℕ) {k p : ℕ} → FirstGiven (program_checks t) k p → p ≤ 2 ^ 32
unfolding program_checks text_checks
place-small t (this (by_whole e)) = omega arith
place-small t (later n f) =
    let h = (many-clear 65_536 (length t)).0 ((clear-exactly (MANY 65_536 (length t))).1 n) in
    place-within (2 ^ 32) (program-within t h).1 f

-- ---- Whatever is printed

pub longest-fits : (t : List ℕ) → length (program_prints t) ≤ 153_679
unfolding program_prints
longest-fits t = go (verdict (program_checks t)) refl
  where
    a : List ℤ
    a = numbers_read t

    go : (v : Verdict) → verdict (program_checks t) ≡ v → length (printed v (forward_sums a) (forward_list a)) ≤ 153_679
    go accepted e = list-fits a most_work (program-accepts t e)
    go (refused k p) e = omega (arith, refusal-length k p (omega (arith, program-number t e)) (omega (arith, place-small t ((refused-exactly (program_checks t) k p).0 e))))
