-- The lines of a text, and the point that a good line is.
use Rattle.std.specs.Prelude.{ℕ, ◌≡◌, Bool, true, false, cond, List, [], ◌∷◌, ◌++◌, get_or, ℤ, eqb, Option, None, Some}
use Rattle.plane.specs.declared.Point.{Point}
use Rattle.numerals.specs.Numerals.{number_of}

-- the byte of a newline
abbrev pub newline : ℕ
newline = 10

-- the byte of a space
abbrev pub space : ℕ
space = 32

-- ---- Bytes

-- the bytes before the first byte c; all of them, if there is none
unfoldable pub before_first : (c : ℕ) → List ℕ → List ℕ
before_first c [] = []
before_first c (b ∷ bs) = cond (eqb b c) [] (b ∷ before_first c bs)

-- the bytes after the first byte c; none, if there is none
unfoldable pub after_first : (c : ℕ) → List ℕ → List ℕ
after_first c [] = []
after_first c (b ∷ bs) = cond (eqb b c) bs (after_first c bs)

-- ---- Lines

-- a line: its bytes, and whether a newline ends it
pub record Line : Type 0 where
  pub bytes : List ℕ
  pub ended : Bool

-- a byte, and then lines: it begins the first of them
abbrev pub onto : ℕ → List Line → List Line
onto b [] = record { bytes = b ∷ []; ended = false } ∷ []
onto b (l ∷ ls) = record { bytes = b ∷ l.bytes; ended = l.ended } ∷ ls

-- the lines of a text: a newline ends a line, and the last may lack it
unfoldable pub lines_of : List ℕ → List Line
lines_of [] = []
lines_of (b ∷ bs) = cond (eqb b newline) (record { bytes = []; ended = true } ∷ lines_of bs) (onto b (lines_of bs))

-- the line at a place
abbrev pub line_at : List Line → ℕ → Line
line_at ls i = get_or ls i (record { bytes = []; ended = false })

-- ---- Points

-- the point of two numbers, if both are there
abbrev pub point_from : Option ℤ → Option ℤ → Option Point
point_from None y = None
point_from (Some x) None = None
point_from (Some x) (Some y) = Some (record { x = x; y = y })

-- a good line is x, one space, y, newline
unfoldable pub line_point : Line → Option Point
line_point l = cond l.ended (point_from (number_of (before_first space l.bytes)) (number_of (after_first space l.bytes))) None

-- the same as document 01 says it: x, one space, y, newline
pub record GoodLine (l : Line) (x y : ℤ) : Type 0 where
  pub xs : List ℕ
  pub ys : List ℕ
  pub bytes : l.bytes ≡ xs ++ (space ∷ ys)
  pub ended : l.ended ≡ true
  pub first : number_of xs ≡ Some x
  pub second : number_of ys ≡ Some y

-- there is nothing
abbrev pub is_none : {A : Type 0} → Option A → Bool
is_none None = true
is_none (Some a) = false

-- a bad line
unfoldable pub is_bad : Line → Bool
is_bad l = is_none (line_point l)

-- a line's point before others, if it is good
abbrev pub with_point : Option Point → List Point → List Point
with_point None ps = ps
with_point (Some p) ps = p ∷ ps

-- the points of the good lines
unfoldable pub points_in : List Line → List Point
points_in [] = []
points_in (l ∷ ls) = with_point (line_point l) (points_in ls)
