-- How many bytes a sentence has at the most.
use Prim.Native.Nat.{ℕ, ◌^◌, ◌≤◌, ◌<◌}
use native.Mathlib.Omega.{arith}
use mathlib.Core.List.{List, ◌++◌}
use lib.ListN.{length, length-append}
use lib.Dec.{eqb, ltb}
use lib.Signed.{mag}
use Rattle.plane.specs.declared.Point.{Point}
use Rattle.plane.proofs.Bools.{cond-case}
use Rattle.numerals.specs.Numerals.{decimal}
use Rattle.numerals.proofs.Printing.{decimal-length, signed-length}
use Rattle.text.specs.declared.Report.{Report}
use Rattle.text.specs.Program.{names_one}
use Rattle.text.specs.Sentences.{many_says, names_point, point_fault, room_says, text_says, sentence}

-- a number of 64 bits has at most 20 digits
pub wide-length : (n : ℕ) → n < 2 ^ 64 → length (decimal n) ≤ 20
wide-length n h = decimal-length 19 n (omega arith)

pub names-length : (place : ℕ) (p : Point) → place < 2 ^ 64 → mag p.x < 2 ^ 31 → mag p.y < 2 ^ 31 → length (names_point place p) ≤ 74
unfolding names_point
names-length place p h hx hy = simp length-append (omega (arith, wide-length place h, signed-length p.x hx, signed-length p.y hy))

fault-length : (k : ℕ) → length (point_fault k) ≤ 56
unfolding point_fault
fault-length k =
    let P : List ℕ → Type 0 = λ l. length l ≤ 56 in
    cond-case P (eqb k 4) (λ _. omega arith) (λ _. cond-case P (eqb k 6) (λ _. omega arith) (λ _. omega arith))

-- a point and its fault together
pub point-length : (place : ℕ) (p : Point) (k : ℕ) → place < 2 ^ 64 → mag p.x < 2 ^ 31 → mag p.y < 2 ^ 31 → length (names_point place p ++ point_fault k) ≤ 200
point-length place p k h hx hy = simp length-append (omega (arith, names-length place p h hx hy, fault-length k))

pub room-length : (place : ℕ) → place < 2 ^ 64 → length (room_says place) ≤ 200
unfolding room_says
room-length place h = simp length-append (omega (arith, wide-length place h))

pub text-length : (place : ℕ) → place < 2 ^ 64 → length (text_says place) ≤ 200
unfolding text_says
text-length place h = simp length-append (omega (arith, wide-length place h))

pub many-length : (read : ℕ) → length (many_says read) ≤ 200
unfolding many_says
many-length read = let P : List ℕ → Type 0 = λ l. length l ≤ 200 in cond-case P (ltb 65_536 read) (λ _. omega arith) (λ _. omega arith)

-- a report's numbers are those of 64 bits, and its point's of signed 32 bits
pub record ReportFits (r : Report) : Type 0 where
  pub number : r.answer < 10 ^ 20
  pub place : r.place < 2 ^ 64
  pub x-small : mag r.point.x < 2 ^ 31
  pub y-small : mag r.point.y < 2 ^ 31

pub sentence-length : (r : Report) → ReportFits r → length (sentence r) ≤ 200
unfolding sentence
sentence-length r f =
    let P : List ℕ → Type 0 = λ l. length l ≤ 200 in
    cond-case P (names_one r.answer) (λ _. point-length r.place r.point r.answer f.place f.x-small f.y-small) λ _.
    cond-case P (eqb r.answer 2) (λ _. many-length r.read) λ _.
    cond-case P (eqb r.answer 8) (λ _. room-length r.place f.place) λ _.
    cond-case P (eqb r.answer 11) (λ _. text-length r.place f.place) (λ _. omega arith)
