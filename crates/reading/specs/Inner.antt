-- What the private functions speak of. No caller needs these definitions: the promise is in Reading.
use Rattle.std.specs.Prelude.{◌≡◌, ◌<◌, ℕ, Some, List, [], ◌∷◌, length, ltb}
use Rattle.plane.specs.declared.Point.{Point}
use Rattle.entry.specs.Checks.{Check}
use Rattle.reading.specs.Lines.{newline, before_first, after_first, Line, line_point}
use Rattle.reading.specs.Reading.{bad_line}

-- the first byte c parts bytes into those before it and those after it
pub record IsParted (c : ℕ) (bytes before after : List ℕ) : Type 0 where
  pub before-is : before ≡ before_first c bytes
  pub after-is : after ≡ after_first c bytes
  pub found : length before < length bytes

-- the line at a text's start
abbrev pub first_line : List ℕ → Line
first_line t = record { bytes = before_first newline t; ended = ltb (length (before_first newline t)) (length t) }

-- a text begins with a good line, of this point, and then comes the rest
pub record BeginsWith (text : List ℕ) (p : Point) (rest : List ℕ) : Type 0 where
  pub point : line_point (first_line text) ≡ Some p
  pub rest-is : rest ≡ after_first newline text
  pub less : length rest < length text

-- the check of a text's lines alone
abbrev pub lines_checks : List ℕ → List Check
lines_checks t = bad_line t ∷ []
