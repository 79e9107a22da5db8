-- The numbers of what the program reports: a place of 64 bits, and a point of signed 32 bits.
use Prim.Native.Nat.{ℕ, zero, suc, ◌^◌, ◌<◌}
use native.Mathlib.Omega.{arith}
use mathlib.Core.Path.{◌≡◌, refl}
use mathlib.Core.List.{List, [], ◌∷◌}
use Rattle.std.specs.Prelude.{Option, None, Some}
use lib.ListN.{length}
use lib.IntN.{ℤ}
use lib.Signed.{mag}
use lib.Dec.{eqb, leb}
use borrow.Author.Tests.{leb-true}
use Rattle.plane.specs.declared.Point.{Point}
use Rattle.plane.specs.Words.{point_at}
use Rattle.plane.proofs.Bools.{cond-case}
use Rattle.entry.specs.Checks.{Verdict, accepted, refused, verdict}
use Rattle.entry.proofs.Verdicts.{refused-exactly}
use Rattle.numerals.specs.Numerals.{minus, value_of, as_plain, as_negative, number_of}
use Rattle.reading.specs.Lines.{Line, before_first, after_first, space, lines_of, point_from, line_point, with_point, points_in}
use Rattle.reading.specs.Reading.{points_read}
use Rattle.text.specs.Program.{program_checks, names_one, offender, report_says, program_prints, program_report}
use Rattle.text.proofs.Checks.{program-number}
use Rattle.text.proofs.Lengths.{ReportFits}
use Rattle.text.proofs.Longest.{place-small}

-- ---- The points that are read

-- a number that is read has 32 bits
abbrev Held : Option ℤ → Type 0
Held None = Unit
Held (Some z) = mag z < 2 ^ 31

plain-held : (o : Option ℕ) → Held (as_plain o)
plain-held None = tt
plain-held (Some n) = cond-case Held (leb n 2_147_483_647) (λ e. omega (arith, leb-true n 2_147_483_647 e)) (λ _. tt)

negative-held : (o : Option ℕ) → Held (as_negative o)
negative-held None = tt
negative-held (Some zero) = omega arith
negative-held (Some (suc n)) = cond-case Held (leb (suc n) 2_147_483_648) (λ e. omega (arith, leb-true (suc n) 2_147_483_648 e)) (λ _. tt)

number-held : (bs : List ℕ) → Held (number_of bs)
unfolding number_of
number-held [] = tt
number-held (b ∷ bs) = cond-case Held (eqb b minus) (λ _. negative-held (value_of bs)) (λ _. plain-held (value_of (b ∷ bs)))

-- so have both numbers of a point
abbrev Small : Point → Type 0
Small p = (mag p.x < 2 ^ 31) × (mag p.y < 2 ^ 31)

abbrev BothHeld : Option Point → Type 0
BothHeld None = Unit
BothHeld (Some p) = Small p

both-held : (x y : Option ℤ) → Held x → Held y → BothHeld (point_from x y)
both-held None y h k = tt
both-held (Some x) None h k = tt
both-held (Some x) (Some y) h k = (h, k)

line-held : (l : Line) → BothHeld (line_point l)
unfolding line_point
line-held l =
    let xs = before_first space l.bytes in
    let ys = after_first space l.bytes in
    cond-case BothHeld l.ended (λ _. both-held (number_of xs) (number_of ys) (number-held xs) (number-held ys)) (λ _. tt)

points-small : (ls : List Line) (i : ℕ) → Small (point_at (points_in ls) i)
unfolding points_in
points-small [] i = omega arith
points-small (l ∷ ls) i = go (line_point l) (line-held l) (points-small ls) i
  where
    go : (o : Option Point) → BothHeld o → ((j : ℕ) → Small (point_at (points_in ls) j)) → (i : ℕ) → Small (point_at (with_point o (points_in ls)) i)
    go None h rest i = rest i
    go (Some p) h rest zero = h
    go (Some p) h rest (suc i) = rest i

-- ---- The report

pub report-fits : (t : List ℕ) → ReportFits (program_report t)
unfolding program_report offender
report-fits t = go (verdict (program_checks t)) refl
  where
    go : (v : Verdict) → verdict (program_checks t) ≡ v → ReportFits (report_says v (points_read t) (length t) (length (program_prints t)))
    go accepted e = record { number = omega arith; place = omega arith; x-small = omega arith; y-small = omega arith }
    go (refused k p) e =
        let small : Small (offender k p (points_read t)) = cond-case Small (names_one k) (λ _. points-small (lines_of t) p) (λ _. omega arith) in
        record { number = omega (arith, program-number t e); place = omega (arith, place-small t ((refused-exactly (program_checks t) k p).0 e)); x-small = small.0; y-small = small.1 }
