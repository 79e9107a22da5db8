-- The parts of a picture: how long each is at the most, and what one rectangle or one point more adds.
use native.Mathlib.Numerals.{add-one}
use Prim.Native.Nat.{ℕ, suc, ◌+◌, ◌*◌, ◌^◌, ◌≤◌, ◌<◌}
use native.Mathlib.Omega.{arith}
use mathlib.Core.Path.{◌≡◌, refl}
use mathlib.Core.Bool.{Bool}
use mathlib.Core.List.{List, [], ◌∷◌, ◌++◌}
use lib.ListN.{length, length-append}
use lib.Dec.{eqb}
use Rattle.plane.specs.declared.Point.{Point}
use Rattle.plane.specs.declared.Rect.{Rect}
use Rattle.plane.specs.Lists.{odd}
use Rattle.plane.specs.Words.{same}
use Rattle.plane.specs.Keys.{raised}
use Rattle.plane.proofs.Bools.{cond-case}
use Rattle.rule.specs.declared.Sums.{Sums}
use Rattle.text.specs.declared.Report.{Report}
use Rattle.text.specs.Program.{names_one}
use Rattle.text.proofs.Lengths.{ReportFits, sentence-length}
use Rattle.drawing.specs.declared.plan.View.{View}
use Rattle.drawing.specs.Plan.{box_of, dot_radius}
use Rattle.drawing.specs.Picture.{head_of, block_of, blocks, dot_of, dots, mark_of, list_says, refused_says, refusal_says, list_part, point_part, mark_part, say_part}
use Rattle.drawing.proofs.Bounds.{across-most, down-most, beside-most, size-most, radius-most, box-small}
use Rattle.drawing.proofs.Filling.{filled-most}

-- ---- How long the parts are

pub head-length : (v : View) → length (head_of v) ≤ 800
unfolding head_of
head-length v = let left = beside-most v in filled-most 5 _ _ (omega (arith, v.low)) (omega arith)

pub block-length : (v : View) (number : ℕ) (r : Rect) → number < 10_000 → length (block_of number (box_of v r)) ≤ 160
unfolding block_of
block-length v number r h =
    let b = box_of v r in
    let small = box-small v r in
    filled-most 5 _ _ (omega (arith, small, size-most b)) (omega arith)

pub dot-length : (v : View) (radius : ℕ) (stands : Bool) (p : Point) → radius ≤ 300 → length (dot_of v radius stands p) ≤ 62
unfolding dot_of
dot-length v radius stands p r =
    let P : List ℕ → Type 0 = λ t. length t + 18 ≤ 62 in
    filled-most 5 _ _ (omega (arith, across-most v (raised p.x), down-most v (raised p.y))) (cond-case P stands (λ _. omega arith) (λ _. omega arith))

pub mark-length : (v : View) (radius : ℕ) (p : Point) → radius ≤ 300 → length (mark_of v radius p) ≤ 200
unfolding mark_of
mark-length v radius p r = filled-most 5 _ _ (omega (arith, v.narrow, v.low, across-most v (raised p.x), down-most v (raised p.y))) (omega arith)

pub sums-length : (v : View) (s : Sums) → s.count < 10 ^ 20 → s.area < 10 ^ 20 → s.edge < 10 ^ 20 → length (list_says v s) ≤ 200
unfolding list_says
sums-length v s c a e = filled-most 19 _ _ (omega (arith, beside-most v)) (omega arith)

pub refused-length : (v : View) (r : Report) → ReportFits r → length (refused_says v r) ≤ 200
unfolding refused_says
refused-length v r f = filled-most 19 _ _ (omega (arith, beside-most v, f)) (omega arith)

pub refusal-length : (v : View) (r : Report) → ReportFits r → length (refusal_says v r) ≤ 500
unfolding refusal_says
refusal-length v r f = simp length-append (omega (arith, refused-length v r f, sentence-length r f))

-- ---- One after the other

-- no rectangle has no block
pub blocks-none : (v : View) (from : ℕ) {rs : List Rect} → rs ≡ [] → blocks v from rs ≡ []
unfolding blocks
blocks-none v from e = rw e refl

-- the block of the first comes first
pub blocks-first : (v : View) (from : ℕ) {rs rest : List Rect} {r : Rect} → rs ≡ r ∷ rest → blocks v from rs ≡ block_of from (box_of v r) ++ blocks v (from + 1) rest
unfolding blocks
blocks-first v from e = rw (e, add-one) refl

-- each has at most 160 bytes
blocks-length : (v : View) (from : ℕ) (rs : List Rect) → from + length rs ≤ 10_000 → length (blocks v from rs) ≤ 160 * length rs
unfolding blocks
blocks-length v from [] n = omega arith
blocks-length v from (r ∷ rs) n = simp length-append (omega (arith, block-length v from r (omega arith), blocks-length v (suc from) rs (omega arith)))

-- the dots of points likewise
pub dots-none : (v : View) (radius : ℕ) (all : List Point) {ps : List Point} → ps ≡ [] → dots v radius all ps ≡ []
unfolding dots
dots-none v radius all e = rw e refl

pub dots-first : (v : View) (radius : ℕ) (all : List Point) {ps rest : List Point} {p : Point} → ps ≡ p ∷ rest → dots v radius all ps ≡ dot_of v radius (odd (same p) all) p ++ dots v radius all rest
unfolding dots
dots-first v radius all e = rw e refl

-- each has at most 62 bytes
dots-length : (v : View) (radius : ℕ) (all ps : List Point) → radius ≤ 300 → length (dots v radius all ps) ≤ 62 * length ps
unfolding dots
dots-length v radius all [] r = omega arith
dots-length v radius all (p ∷ ps) r = simp length-append (omega (arith, dot-length v radius (odd (same p) all) p r, dots-length v radius all ps r))

-- ---- The picture's parts

pub list-part-length : (v : View) (rs : List Rect) → length rs ≤ 3200 → length (list_part v rs) ≤ 520_000
unfolding list_part
list-part-length v rs n = simp length-append (omega (arith, head-length v, blocks-length v 0 rs (omega arith)))

pub point-part-length : (v : View) (ps : List Point) → length (point_part v ps) ≤ 62 * length ps + 10
unfolding point_part
point-part-length v ps = simp length-append (omega (arith, dots-length v (dot_radius (length ps)) ps ps (radius-most (length ps))))

pub mark-part-length : (v : View) (ps : List Point) (r : Report) → length (mark_part v ps r) ≤ 200
unfolding mark_part
mark-part-length v ps r =
    let P : List ℕ → Type 0 = λ l. length l ≤ 200 in
    cond-case P (names_one r.answer) (λ _. mark-length v (dot_radius (length ps)) r.point (radius-most (length ps))) (λ _. omega arith)

-- what is said of sums of 64 bits, or of a refusal
pub say-part-length : (v : View) (s : Sums) (r : Report) → s.count < 10 ^ 20 → s.area < 10 ^ 20 → s.edge < 10 ^ 20 → ReportFits r → length (say_part v s r) ≤ 500
unfolding say_part
say-part-length v s r c a e f =
    let P : List ℕ → Type 0 = λ l. length l ≤ 500 in
    cond-case P (eqb r.answer 0) (λ _. omega (arith, sums-length v s c a e)) (λ _. refusal-length v r f)
