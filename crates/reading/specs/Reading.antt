-- What is refused of a text, and what its reader answers and leaves.
use Rattle.std.specs.Prelude.{ℕ, ◌/◌, List, [], ◌∷◌, ◌++◌, length, ℤ}
use Rattle.plane.specs.declared.Point.{Point}
use Rattle.plane.specs.Words.{flat_points, most_points}
use Rattle.entry.specs.Entry.{Done, Counted}
use Rattle.entry.specs.Checks.{Check}
use Rattle.rule.specs.Rows.{MANY, TEXT, ROOM}
use Rattle.reading.specs.Lines.{lines_of, line_at, is_bad, points_in}

-- the points of a text
abbrev pub points_read : List ℕ → List Point
points_read t = points_in (lines_of t)

-- TEXT: a bad line
abbrev pub bad_line : List ℕ → Check
bad_line t = TEXT (length (lines_of t)) (λ i. is_bad (line_at (lines_of t) i))

-- MANY for bytes over 65,536, TEXT, MANY for lines over 4,096
unfoldable pub text_checks : List ℕ → List Check
text_checks t = MANY 65_536 (length t) ∷ bad_line t ∷ MANY most_points (length (lines_of t)) ∷ []

-- the same, and then ROOM: a point for each line, and an output's length
unfoldable pub read_checks : (t : List ℕ) (out : ℕ) → List Check
read_checks t out = text_checks t ++ (ROOM (length (lines_of t)) (out / 2) ∷ [])

-- the reader promises, of a text and an output: its answer, which counts the points, and the output afterwards, which begins with them
abbrev pub ReadDone : (t : List ℕ) (out : List ℤ) (r : Counted) (out-after : List ℤ) → Type 0
ReadDone t out r out-after = Done (read_checks t (length out)) (length (points_read t)) (flat_points (points_read t)) out r out-after
