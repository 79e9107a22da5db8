-- What is shown: the points of a text that is accepted, and the list that forward makes of them.
use Prim.Native.Nat.{ℕ, ◌*◌, ◌^◌, ◌≤◌, ◌<◌}
use native.Mathlib.Nat.{zero-add}
use native.Mathlib.Omega.{arith}
use mathlib.Core.Path.{◌≡◌, refl, sym, ap, ◌∙◌}
use mathlib.Core.Bool.{Bool, true, false}
use mathlib.Core.List.{List}
use lib.ListN.{length, take}
use lib.Seq.{take-append_seam}
use lib.IntN.{ℤ}
use lib.Dec.{eqb}
use Rattle.std.proofs.Common.{Result, Ok, Err}
use Rattle.std.specs.Result.{result_unwrap_or}
use borrow.Author.Tests.{eqb-true, eqb-false, le-leb, lt-leb}
use Rattle.plane.specs.declared.Point.{Point}
use Rattle.plane.specs.declared.Rect.{Rect}
use Rattle.plane.specs.Words.{points_of, flat_points, rects_of, fours_of, flat_rects, rect_size, most_points}
use Rattle.plane.proofs.Arrays.{points-flat, length-flat-rects, rects-flat}
use Rattle.entry.specs.declared.Refusal.{Refusal}
use Rattle.entry.specs.Entry.{written, Counted, told}
use Rattle.entry.specs.Checks.{Verdict, accepted, refused, verdict}
use Rattle.rule.specs.declared.Sums.{Sums}
use Rattle.rule.specs.ForwardCall.{forward_says, forward_answer, forward_out, forward_checks, ForwardDone, forward_list, sums_told, forward_sums, forward_told, ForwardAnswer}
use Rattle.rule.proofs.ForwardCall.{forward-accepted}
use Rattle.rule.proofs.Demands.{forward-sums-fit}
use Rattle.reading.specs.Reading.{ReadDone}
use Rattle.reading.proofs.Kept.{read_kept, read_done, read-refused}
use Rattle.text.specs.Program.{most_work, most_list, program_report, most_listed}
use Rattle.drawing.specs.declared.Paper.{Paper}
use Rattle.drawing.specs.Inner.{Draws}
use Rattle.drawing.specs.Picture.{svg_of, shown, points_shown, list_shown, sums_shown, picture_of, Drawn}

-- ---- The list

-- an answer counts the list shown
count-shown : (v : Verdict) (a : List ℤ) → (forward_says v (forward_sums a)).count ≡ length (shown v (forward_list a))
count-shown accepted a = refl
count-shown (refused k p) a = refl

-- and the output begins with it
starts-shown : (v : Verdict) (rs : List Rect) (out : List ℤ) → rects_of (take (rect_size * length (shown v rs)) (written v (flat_rects rs) out)) ≡ shown v rs
unfolding rects_of fours_of
starts-shown accepted rs out = rw (sym (length-flat-rects rs), take-append_seam (flat_rects rs) _) (rects-flat rs)
starts-shown (refused k p) rs out = refl

-- with the program's room it is not long
pub list-few : (a : List ℤ) → length (list_shown a) ≤ most_listed
list-few a = go (verdict (forward_checks a most_work most_list)) refl
  where
    go : (v : Verdict) → verdict (forward_checks a most_work most_list) ≡ v → length (shown v (forward_list a)) ≤ most_listed
    go accepted e = ((forward-accepted a most_work most_list).0 e).room
    go (refused k p) e = omega arith

-- sums that have at most 20 digits
pub record SumsSmall (s : Sums) : Type 0 where
  pub count : s.count < 10 ^ 20
  pub area : s.area < 10 ^ 20
  pub edge : s.edge < 10 ^ 20

-- those shown
pub sums-small : (a : List ℤ) → SumsSmall (sums_shown a)
unfolding forward_answer
sums-small a =
    let fit = forward-sums-fit a most_work most_list in
    let v = verdict (forward_checks a most_work most_list) in
    record { count = omega (arith, count-shown v a, list-few a); area = omega (arith, fit.0); edge = omega (arith, fit.1) }

-- no sums are told of a refusal
pub sums-or-none : (r : Result Sums Refusal) → result_unwrap_or r (record { count = 0; area = 0; edge = 0 }) ≡ sums_told (forward_told r)
sums-or-none (Ok s) = refl
sums-or-none (Err e) = refl

-- and no count
pub count-or-none : (r : Result ℕ Refusal) → result_unwrap_or r 0 ≡ (told r).count
count-or-none (Ok n) = refl
count-or-none (Err e) = refl

-- what forward leaves, with the program's work and room
pub record Made (a : List ℤ) (r : ForwardAnswer) (out-after : List ℤ) : Type 0 where
  pub list : rects_of (take (rect_size * r.count) out-after) ≡ list_shown a
  pub count : r.count ≤ most_listed
  pub sums : sums_told r ≡ sums_shown a

pub list-made : {a work out : List ℤ} {r : ForwardAnswer} {work-after out-after : List ℤ} → ForwardDone a work out r work-after out-after → length work ≡ most_work → length out ≡ most_list → Made a r out-after
unfolding forward_answer forward_out
list-made {a} {work} {out} {r} {out-after = after} d w o =
    let v = verdict (forward_checks a most_work most_list) in
    let rs = forward_list a in
    let e : r ≡ forward_says v (forward_sums a) = rw (w, o) at d.answer in
    let f : after ≡ written v (flat_rects rs) out = rw (w, o) at d.output in
    let many : r.count ≡ length (shown v rs) = rw e (count-shown v a) in
    record { list = rw (many, f) (starts-shown v rs out); count = omega (arith, list-few a); sums = rw e }

-- ---- The points

-- what the reader leaves, with room for every text that is accepted: the points shown
pub record Read (t : List ℕ) (r : Counted) (out-after : List ℤ) : Type 0 where
  pub few : r.count ≤ most_points
  pub fits : 2 * r.count ≤ length out-after
  pub numbers : take (2 * r.count) out-after ≡ flat_points (points_shown t)

pub points-read : (t : List ℕ) {out : List ℤ} {r : Counted} {after : List ℤ} → ReadDone t out r after → most_work ≤ length out → Read t r after
unfolding points_shown flat_points
points-read t {out} {r} {after} d room = go (eqb r.answer 0) refl
  where
    go : (b : Bool) → eqb r.answer 0 ≡ b → Read t r after
    go true e = let h = read_done t d (eqb-true r.answer 0 e) in record { few = h.few; fits = h.fits; numbers = rw h.accepts h.numbers }
    go false e =
        let n = eqb-false r.answer 0 e in
        let z = (read_kept t d).refused-count n in
        record { few = omega arith; fits = omega arith; numbers = rw (z, read-refused t d room n) }

-- ---- The picture

-- what is drawn of them is the picture of the text
pub picture-shown : (t : List ℕ) → let a = flat_points (points_shown t) in svg_of (points_of a) (list_shown a) (sums_shown a) (program_report t) ≡ picture_of t
unfolding picture_of
picture-shown t = let a = flat_points (points_shown t) in ap (λ (ps : List Point). svg_of ps (list_shown a) (sums_shown a) (program_report t)) (points-flat (points_shown t))

-- with room it is drawn, where the output that the paper was lent ends as what the paper has, and without it nothing is
pub drawn : {t : List ℕ} {p q : Paper} {after : List ℕ} → Draws p (picture_of t) q → p.len ≡ 0 → length (picture_of t) ≤ 800_000 → 800_000 ≤ length p.room.now → (p.room.ghost_name ≡ q.room.ghost_name → after ≡ q.room.now) → Drawn t p.room.now q.len after
drawn {t} {p} {q} d start fits room lent =
    let enough = le-leb 800_000 (length p.room.now) room in
    let all = d.drawn (omega arith) in
    record { size = rw (enough, all, start) (zero-add _); output = lent (rw all refl) ∙ rw (enough, all, start) refl }

pub not-drawn : (t out : List ℕ) → length out < 800_000 → Drawn t out 0 out
not-drawn t out h = let e = lt-leb 800_000 (length out) h in record { size = rw e; output = rw e }
