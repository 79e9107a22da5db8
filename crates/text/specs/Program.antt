-- What the program refuses, prints and reports, of the bytes that it reads.
use Rattle.std.specs.Prelude.{ℕ, ◌*◌, ◌≡◌, Bool, cond, ◌||◌, List, [], ◌∷◌, ◌++◌, length, ℤ, eqb, Option, Some, None}
use Rattle.plane.specs.declared.Point.{Point}
use Rattle.plane.specs.declared.Rect.{Rect}
use Rattle.plane.specs.Lists.{put_at}
use Rattle.plane.specs.Words.{origin, flat_points, point_at, rect_size, most_points}
use Rattle.entry.specs.declared.Refusal.{Refusal}
use Rattle.entry.specs.Refusals.{number_of}
use Rattle.entry.specs.Checks.{Check, Verdict, accepted, refused, verdict}
use Rattle.entry.specs.Entry.{number_in, place_in}
use Rattle.rule.specs.declared.Sums.{Sums}
use Rattle.rule.specs.ForwardCall.{forward_checks, forward_sums, forward_list}
use Rattle.numerals.specs.Bytes.{ascii}
use Rattle.numerals.specs.Numerals.{decimal, signed}
use Rattle.reading.specs.Reading.{points_read, text_checks}
use Rattle.text.specs.declared.Outcome.{Outcome}
use Rattle.text.specs.declared.Report.{Report}

-- ---- What is refused

-- the most numbers of a working array: two for each of 4,096 points
abbrev pub most_work : ℕ
most_work = 2 * most_points

-- the most rectangles of a list
abbrev pub most_listed : ℕ
most_listed = 3200

-- the most numbers of a list
abbrev pub most_list : ℕ
most_list = rect_size * most_listed

-- the numbers that forward is given: the points read, as an array
abbrev pub numbers_read : List ℕ → List ℤ
numbers_read t = flat_points (points_read t)

-- MANY for bytes, TEXT, MANY for lines, then the forward checks with room for 3,200 rectangles
unfoldable pub program_checks : List ℕ → List Check
program_checks t = text_checks t ++ forward_checks (numbers_read t) most_work most_list

-- ---- What is printed

-- the first line: count, area and edge
unfoldable pub sums_line : Sums → List ℕ
sums_line s = ascii "rects " ++ (decimal s.count ++ (ascii " area " ++ (decimal s.area ++ (ascii " edge " ++ (decimal s.edge ++ ascii "\n")))))

-- a rectangle's line: X Y W H
unfoldable pub rect_line : Rect → List ℕ
rect_line r = signed r.x ++ (ascii " " ++ (signed r.y ++ (ascii " " ++ (signed r.w ++ (ascii " " ++ (signed r.h ++ ascii "\n"))))))

-- a line for each rectangle
unfoldable pub rect_lines : List Rect → List ℕ
rect_lines [] = []
rect_lines (r ∷ rs) = rect_line r ++ rect_lines rs

-- a list: the sums, and then the rectangles
unfoldable pub list_lines : Sums → List Rect → List ℕ
list_lines s rs = sums_line s ++ rect_lines rs

-- a refusal: its number and its place
unfoldable pub refusal_line : (number place : ℕ) → List ℕ
refusal_line number place = ascii "refused " ++ (decimal number ++ (ascii " place " ++ (decimal place ++ ascii "\n")))

-- a list, or a refusal
abbrev pub printed : Verdict → Sums → List Rect → List ℕ
printed accepted s rs = list_lines s rs
printed (refused k p) s rs = refusal_line k p

-- what the program prints, of what it reads
unfoldable pub program_prints : List ℕ → List ℕ
program_prints t = printed (verdict (program_checks t)) (forward_sums (numbers_read t)) (forward_list (numbers_read t))

-- ---- What is reported

-- a refusal of the program names a point: RANGE, ROW and COLUMN do
unfoldable pub names_one : (number : ℕ) → Bool
names_one k = eqb k 4 || (eqb k 6 || eqb k 7)

-- the point that a refusal names; (0, 0), if it names none
unfoldable pub offender : (number place : ℕ) → List Point → Point
offender k p ps = cond (names_one k) (point_at ps p) origin

-- the same of a verdict; (0, 0), if nothing is refused
abbrev pub named : Verdict → List Point → Point
named accepted ps = origin
named (refused k p) ps = offender k p ps

-- the number of what was refused, 0 where nothing was
abbrev pub answer_told : Option Refusal → ℕ
answer_told None = 0
answer_told (Some e) = number_of e.reason

-- its place, 0 where nothing was
abbrev pub place_told : Option Refusal → ℕ
place_told None = 0
place_told (Some e) = e.place

-- the report that an outcome tells
abbrev pub outcome_told : Outcome → Report
outcome_told o = record { answer = answer_told o.refusal; place = place_told o.refusal; point = o.point; read = o.read; printed = o.printed }

-- answer, place, the point named, and how many bytes were read and printed
abbrev pub report_says : Verdict → List Point → (read printed : ℕ) → Report
report_says v ps read n = record { answer = number_in v; place = place_in v; point = named v ps; read = read; printed = n }

-- what the program knows at its end, of what it reads
unfoldable pub program_report : List ℕ → Report
program_report t = report_says (verdict (program_checks t)) (points_read t) (length t) (length (program_prints t))

-- the program on slices, of a text and an output: its report, and the output afterwards, which holds what is printed if that has room
pub record ProgramDone (t out : List ℕ) (r : Report) (out-after : List ℕ) : Type 0 where
  pub report : r ≡ program_report t
  pub output : out-after ≡ put_at out 0 (program_prints t)
