-- The picture's text, of the bytes that the program reads.
use Rattle.std.specs.Prelude.{ℕ, suc, ◌+◌, ◌/◌, ◌≡◌, Bool, cond, List, [], ◌∷◌, ◌++◌, length, drop, get_or, ℤ, eqb, leb}
use Rattle.plane.specs.declared.Point.{Point}
use Rattle.plane.specs.declared.Rect.{Rect}
use Rattle.plane.specs.Lists.{odd, at_start}
use Rattle.plane.specs.Words.{same, flat_points}
use Rattle.plane.specs.Keys.{raised}
use Rattle.entry.specs.Entry.{if_accepted}
use Rattle.entry.specs.Checks.{Verdict, verdict}
use Rattle.rule.specs.declared.Sums.{Sums}
use Rattle.rule.specs.ForwardCall.{forward_checks, sums_told, forward_list, forward_answer}
use Rattle.numerals.specs.Bytes.{ascii}
use Rattle.numerals.specs.Numerals.{decimal}
use Rattle.reading.specs.Reading.{points_read, text_checks}
use Rattle.text.specs.declared.Report.{Report}
use Rattle.text.specs.Program.{most_work, most_list, names_one, program_report}
use Rattle.text.specs.Sentences.{sentence}
use Rattle.drawing.specs.declared.plan.View.{View}
use Rattle.drawing.specs.declared.plan.Box.{Box}
use Rattle.drawing.specs.Plan.{frame_of, view_of, across, down, free_beside, box_of, number_size, dot_radius}

-- ---- Templates

-- the byte that stands for a number in a template
abbrev pub blank : ℕ
blank = 64

-- a template with the numbers, printed, in the places of its `@`
unfoldable pub filled : (template numbers : List ℕ) → List ℕ
filled [] ns = []
filled (c ∷ cs) ns = cond (eqb c blank) (decimal (get_or ns 0 0) ++ filled cs (drop 1 ns)) (c ∷ filled cs ns)

-- ---- Parts of a picture

-- the picture's size, its colours and its paper
unfoldable pub head_of : View → List ℕ
head_of v =
    filled
    (ascii "<svg xmlns='http://www.w3.org/2000/svg' width='1040' height='@' viewBox='-@ -8000 104000 @'>\n<style>.paper{fill:white}.list rect{fill:lightsteelblue;stroke:navy;stroke-width:40}.list text{font-family:sans-serif;text-anchor:middle;fill:black}.points circle{fill:black}.points .gone{fill:white;stroke:black;stroke-width:60}.bad{fill:none;stroke:red;stroke-width:150}.said{font:2400px sans-serif}.why{font:1500px sans-serif}</style>\n<rect class='paper' x='-@' y='-8000' width='104000' height='@'/>\n<g class='list'>\n")
    (((v.height + 10_000) / 100) ∷ (free_beside v + 2000) ∷ (v.height + 10_000) ∷ (free_beside v + 2000) ∷ (v.height + 10_000) ∷ [])

-- a rectangle with its number in the middle
unfoldable pub block_of : (number : ℕ) → Box → List ℕ
block_of number b =
    filled
    (ascii "<rect x='@' y='@' width='@' height='@'/><text x='@' y='@' dy='.35em' font-size='@'>@</text>\n")
    (b.x ∷ b.y ∷ b.w ∷ b.h ∷ (b.x + b.w / 2) ∷ (b.y + b.h / 2) ∷ number_size b ∷ number ∷ [])

-- rectangles, numbered from a number on
unfoldable pub blocks : View → (from : ℕ) → List Rect → List ℕ
blocks v from [] = []
blocks v from (r ∷ rs) = block_of from (box_of v r) ++ blocks v (suc from) rs

-- a point: filled if it stands, hollow if it cancels
unfoldable pub dot_of : View → (radius : ℕ) → (stands : Bool) → Point → List ℕ
dot_of v radius stands p =
    filled
    (cond stands (ascii "<circle cx='@' cy='@' r='@'/>\n") (ascii "<circle class='gone' cx='@' cy='@' r='@'/>\n"))
    (across v (raised p.x) ∷ down v (raised p.y) ∷ radius ∷ [])

-- points, beside all that are given: one that is listed an odd number of times stands, and any other cancels
unfoldable pub dots : View → (radius : ℕ) → (all ps : List Point) → List ℕ
dots v radius all [] = []
dots v radius all (p ∷ ps) = dot_of v radius (odd (same p) all) p ++ dots v radius all ps

-- the mark of a point: its row, its column and a ring
unfoldable pub mark_of : View → (radius : ℕ) → Point → List ℕ
mark_of v radius p =
    filled
    (ascii "<path class='bad' d='M0 @H@M@ 0V@'/><circle class='bad' cx='@' cy='@' r='@'/>\n")
    (down v (raised p.y) ∷ v.width ∷ across v (raised p.x) ∷ v.height ∷ across v (raised p.x) ∷ down v (raised p.y) ∷ (radius + 800) ∷ [])

-- what is said above a list: its sums
unfoldable pub list_says : View → Sums → List ℕ
list_says v s = filled (ascii "<text class='said' x='-@' y='-3000'>rects @ area @ edge @</text>\n") (free_beside v ∷ s.count ∷ s.area ∷ s.edge ∷ [])

-- what is said above points that are refused: the refusal's number and place, and the start of a second line
unfoldable pub refused_says : View → Report → List ℕ
refused_says v r = filled (ascii "<text class='said' x='-@' y='-5000'>refused @ place @</text>\n<text class='why' x='-@' y='-2200'>") (free_beside v ∷ r.answer ∷ r.place ∷ free_beside v ∷ [])

-- and then the program's sentence
unfoldable pub refusal_says : View → Report → List ℕ
refusal_says v r = refused_says v r ++ (sentence r ++ ascii "</text>\n")

-- ---- The picture

-- the rectangles, in list order
unfoldable pub list_part : View → List Rect → List ℕ
list_part v rs = head_of v ++ (blocks v 0 rs ++ ascii "</g>\n<g class='points'>\n")

-- the points
unfoldable pub point_part : View → List Point → List ℕ
point_part v ps = dots v (dot_radius (length ps)) ps ps ++ ascii "</g>\n"

-- the mark of the point that a refusal names
unfoldable pub mark_part : View → List Point → Report → List ℕ
mark_part v ps r = cond (names_one r.answer) (mark_of v (dot_radius (length ps)) r.point) []

-- what is said above
unfoldable pub say_part : View → Sums → Report → List ℕ
say_part v s r = cond (eqb r.answer 0) (list_says v s) (refusal_says v r)

-- a picture of points, their list with its sums, and the program's report
unfoldable pub svg_of : List Point → List Rect → Sums → Report → List ℕ
svg_of ps rs s r =
    let v = view_of (frame_of ps) in
    list_part v rs ++ (point_part v ps ++ (mark_part v ps r ++ (say_part v s r ++ ascii "</svg>\n")))

-- what is shown of points or rectangles: all that are accepted, none of what is refused
abbrev pub shown : {A : Type 0} → Verdict → List A → List A
shown v xs = if_accepted v xs []

-- the points shown: none, if the text is refused
unfoldable pub points_shown : List ℕ → List Point
points_shown t = shown (verdict (text_checks t)) (points_read t)

-- the list shown of an array: none, if its points are refused
abbrev pub list_shown : List ℤ → List Rect
list_shown a = shown (verdict (forward_checks a most_work most_list)) (forward_list a)

-- the sums shown: those that forward tells
abbrev pub sums_shown : List ℤ → Sums
sums_shown a = sums_told (forward_answer a most_work most_list)

-- the picture of what the program reads
unfoldable pub picture_of : List ℕ → List ℕ
picture_of t =
    let a = flat_points (points_shown t) in
    svg_of (points_shown t) (list_shown a) (sums_shown a) (program_report t)

-- ---- The contract

-- the picture's size, and the output afterwards with the picture at its start; with less room than the largest needs nothing is drawn
pub record Drawn (t out : List ℕ) (r : ℕ) (out-after : List ℕ) : Type 0 where
  pub size : r ≡ cond (leb 800_000 (length out)) (length (picture_of t)) 0
  pub output : out-after ≡ cond (leb 800_000 (length out)) (at_start (picture_of t) out) out
