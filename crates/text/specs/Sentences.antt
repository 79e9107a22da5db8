-- The sentence that says of a refusal what is wrong and where.
use Rattle.std.specs.Prelude.{ℕ, cond, List, [], ◌++◌, eqb, ltb}
use Rattle.plane.specs.declared.Point.{Point}
use Rattle.numerals.specs.Bytes.{ascii}
use Rattle.numerals.specs.Numerals.{decimal, signed}
use Rattle.text.specs.declared.Report.{Report}
use Rattle.text.specs.Program.{names_one}

-- MANY: by what was read, too many bytes or else too many lines
unfoldable pub many_says : (read : ℕ) → List ℕ
many_says read = cond (ltb 65_536 read) (ascii "The input is longer than 65536 bytes.\n") (ascii "The input has more than 4096 lines.\n")

-- a point: its place and its coordinates
unfoldable pub names_point : (place : ℕ) → Point → List ℕ
names_point place p =
    ascii "Point " ++ (decimal place ++ (ascii " (counted from 0) at (" ++ (signed p.x ++ (ascii ", " ++ (signed p.y ++ ascii ") ")))))

-- what is wrong with a point, by the refusal's number
unfoldable pub point_fault : (number : ℕ) → List ℕ
point_fault k =
    cond (eqb k 4) (ascii "has a coordinate below -1000000000 or above 1000000000.\n") (cond (eqb k 6) (ascii "is on a row with an odd number of points.\n") (ascii "is in a column with an odd number of points.\n"))

-- ROOM: how many rectangles the list has
unfoldable pub room_says : (place : ℕ) → List ℕ
room_says place = ascii "The list has " ++ (decimal place ++ ascii " rectangles, and there is room for 3200.\n")

-- TEXT: which line is bad
unfoldable pub text_says : (place : ℕ) → List ℕ
text_says place = ascii "Line " ++ (decimal place ++ ascii " (counted from 0) is not two whole numbers of 32 bits with one space between them and a newline at the end.\n")

-- the sentence of a report; none if nothing is refused
unfoldable pub sentence : Report → List ℕ
sentence r =
    cond (names_one r.answer) (names_point r.place r.point ++ point_fault r.answer)
    (cond (eqb r.answer 2) (many_says r.read) (cond (eqb r.answer 8) (room_says r.place) (cond (eqb r.answer 11) (text_says r.place) [])))
