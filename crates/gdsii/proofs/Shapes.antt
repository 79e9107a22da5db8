-- Vertices in a stream, one after another, and what the code learns of a path vertex by vertex.
use mathlib.Core.Path.{◌≡◌, refl, sym, ap, ap₂, ◌∙◌}
use Prim.Native.Nat.{ℕ, zero, suc, ◌+◌, ◌-◌, ◌*◌, ◌/◌, ◌<◌, ◌≤◌, ◌^◌}
use native.Mathlib.Omega.{arith}
use mathlib.Core.Bool.{Bool, true, false, not, cond, ◌&&◌, ◌||◌, or_assoc, or-false}
use mathlib.Core.List.{List, [], ◌∷◌, ◌++◌}
use lib.ListN.{length, take, drop, length-drop, take-append-drop}
use Rattle.std.proofs.lemmas.List.{length-take-le}
use lib.IntN.{ℤ}
use Rattle.std.specs.Prelude.{Result, Ok, Err}
use Rattle.std.proofs.Common.{rules, int_eq}
use Rattle.plane.specs.declared.Point.{Point}
use Rattle.plane.specs.Lists.{any}
use Rattle.plane.specs.Words.{eq_z, same}
use Rattle.bigendian.specs.Numbers.{number_at, signed}
use Rattle.bigendian.proofs.Laws.{number-drop, number_append}
use Rattle.entry.specs.declared.Reason.{Reason}
use Rattle.entry.specs.declared.Reason.TheVariants.{Open, Slanted}
use Rattle.entry.specs.Refusals.{number_of}
use Rattle.boundaries.specs.Boundary.{edges_of, slanted, last_or, is_open}
use Rattle.records.specs.Records.{head_size}
use Rattle.gdsii.specs.declared.Cursor.{Cursor}
use Rattle.gdsii.specs.Walk.{OPEN, SLANTED, Judged, Refused, Boundary, by_shape, vertex_size, vertex_at, vertices}
use Rattle.gdsii.specs.Inner.{is_slanted, shape_of}

-- ---- Places

abbrev point : ℤ → ℤ → Point
point x y = record { x = x; y = y }

-- a vertex in the bytes from a place on
vertex-drop : (m : ℕ) (t : List ℕ) (at : ℕ) → vertex_at (drop m t) at ≡ vertex_at t (m + at)
unfolding vertex_at
vertex-drop m t at =
    let e : m + (at + 4) ≡ m + at + 4 = omega arith in
    ap₂ (λ (i j : ℕ). point (signed (2 ^ 31) i) (signed (2 ^ 31) j)) (number-drop 4 m at t) (number-drop 4 m (at + 4) t ∙ ap (λ (i : ℕ). number_at 4 i t) e)

-- so many of them
pub vertices-drop : (m : ℕ) (t : List ℕ) (n at : ℕ) → vertices n at (drop m t) ≡ vertices n (m + at) t
unfolding vertices
vertices-drop m t zero at = refl
vertices-drop m t (suc n) at =
    let e : m + (at + vertex_size) ≡ m + at + vertex_size = omega arith in
    ap₂ ◌∷◌ (vertex-drop m t at) (vertices-drop m t n (at + vertex_size) ∙ ap (λ (i : ℕ). vertices n i t) e)

-- bytes after them do not matter
pub vertices-append : (t more : List ℕ) (n at : ℕ) → at + vertex_size * n ≤ length t → vertices n at (t ++ more) ≡ vertices n at t
unfolding vertices vertex_at
vertices-append t more zero at h = refl
vertices-append t more (suc n) at h = rw (number_append 4 at t more (omega arith), number_append 4 (at + 4) t more (omega arith), vertices-append t more n (at + vertex_size) (omega arith))

pub length-vertices : (n at : ℕ) (t : List ℕ) → length (vertices n at t) ≡ n
unfolding vertices
length-vertices zero at t = refl
length-vertices (suc n) at t = ap suc (length-vertices n (at + vertex_size) t)

-- all that bytes hold: none, where they are too few
pub left-none : (t : List ℕ) → length t < vertex_size → vertices (length t / vertex_size) 0 t ≡ []
unfolding vertices
left-none t h = let e : length t / vertex_size ≡ 0 = omega arith in ap (λ (n : ℕ). vertices n 0 t) e

-- and else the first, and those of the bytes after it
pub left-next : (t : List ℕ) → vertex_size ≤ length t → vertices (length t / vertex_size) 0 t ≡ vertex_at t 0 ∷ vertices (length (drop vertex_size t) / vertex_size) 0 (drop vertex_size t)
unfolding vertices
left-next t h =
    let m : ℕ = length (drop vertex_size t) / vertex_size in
    let e : length t / vertex_size ≡ suc m = omega (arith, length-drop vertex_size t) in
    ap (λ (n : ℕ). vertices n 0 t) e ∙ ap (λ (vs : List Point). vertex_at t 0 ∷ vs) (sym (vertices-drop vertex_size t m 0))

-- all that the data of a record hold are in the record
pub left-record : (t : List ℕ) (n : ℕ) → head_size ≤ n → n ≤ length t → let u = take (n - head_size) (drop head_size t) in vertices (length u / vertex_size) 0 u ≡ vertices ((n - head_size) / vertex_size) head_size t
left-record t n g h =
    let u : List ℕ = take (n - head_size) (drop head_size t) in
    let long : length u ≡ n - head_size = length-take-le (n - head_size) (drop head_size t) (omega (arith, length-drop head_size t)) in
    let m : ℕ = (n - head_size) / vertex_size in
    ap (λ (k : ℕ). vertices (k / vertex_size) 0 u) long
    ∙ sym (vertices-append u (drop (n - head_size) (drop head_size t)) m 0 (omega (arith, long)))
    ∙ ap (vertices m 0) (take-append-drop (n - head_size) (drop head_size t))
    ∙ vertices-drop head_size t m 0

-- ---- A path, vertex by vertex

-- what `==` says of two points
pub equal-points : (p q : Point) → (int_eq p.y q.y && int_eq p.x q.x) ≡ same p q
unfolding same eq_z
equal-points p q = search rules

-- what is known of vertices after the first, when p is reached and `flag` says whether an edge before it is slanted
pub record Along (first : Point) (all : List Point) (p : Point) (left : List Point) (flag : Bool) : Type 0 where
  pub last : last_or p left ≡ last_or first all
  pub bent : (flag || slanted (p ∷ left)) ≡ slanted (first ∷ all)

pub along-start : (first : Point) (all : List Point) → Along first all first all false
along-start first all = record { last = refl; bent = refl }

pub along-next : {first : Point} {all : List Point} {p : Point} {left : List Point} {flag : Bool} → Along first all p left flag → (q : Point) (more : List Point) → left ≡ q ∷ more → Along first all q more (flag || is_slanted p q)
unfolding last_or slanted edges_of any
along-next {p = p} {flag = flag} a q more e = record { last = ap (last_or p) (sym e) ∙ a.last; bent = or_assoc flag (is_slanted p q) (slanted (q ∷ more)) ∙ ap (λ (l : List Point). flag || slanted (p ∷ l)) (sym e) ∙ a.bent }

-- at the end
pub along-end : {first : Point} {all : List Point} {p : Point} {left : List Point} {flag : Bool} → Along first all p left flag → left ≡ [] → shape_of (first ∷ all) ≡ cond (not (same p first)) (Err Open) (cond flag (Err Slanted) (Ok (tt {0})))
unfolding last_or slanted edges_of any is_open
along-end {first} {all} {p} {left} {flag} a e =
    let l : last_or first all ≡ p = sym a.last ∙ ap (last_or p) e in
    let b : slanted (first ∷ all) ≡ flag = sym a.bent ∙ ap (λ (m : List Point). flag || slanted (p ∷ m)) e ∙ or-false flag in
    ap₂ (λ (u : Point) (v : Bool). cond (not (same u first)) (Err Open) (cond v (Err Slanted) (Ok (tt {0})))) l b

-- ---- What the shape says

-- a boundary that is not refused is closed and not slanted
pub fine-shape : (vs : List Point) → shape_of vs ≡ Ok (tt {0}) → (is_open vs ≡ false) × (slanted vs ≡ false)
fine-shape vs e = go (is_open vs) (slanted vs) refl refl e
  where
    go : (o s : Bool) → is_open vs ≡ o → slanted vs ≡ s → cond o (Err Open) (cond s (Err Slanted) (Ok (tt {0}))) ≡ Ok (tt {0}) → (is_open vs ≡ false) × (slanted vs ≡ false)
    go true s d f e = absurd cc
    go false true d f e = absurd cc
    go false false d f e = (d, f)

-- it has a vertex
pub fine-some : (n at : ℕ) (t : List ℕ) → shape_of (vertices n at t) ≡ Ok (tt {0}) → 0 < n
unfolding vertices is_open
fine-some zero at t e = absurd cc
fine-some (suc n) at t e = omega arith

-- what becomes of a boundary, by what was said of its shape
abbrev pub shaped : Result (Unit {0}) Reason → List Point → Cursor → Judged
shaped (Err r) vs next = Refused (number_of r)
shaped (Ok u) vs next = Boundary vs next

pub shape-told : (vs : List Point) (next : Cursor) → shaped (shape_of vs) vs next ≡ by_shape vs next
shape-told vs next = go (is_open vs) (slanted vs)
  where
    go : (o s : Bool) → shaped (cond o (Err Open) (cond s (Err Slanted) (Ok (tt {0})))) vs next ≡ cond o (Refused OPEN) (cond s (Refused SLANTED) (Boundary vs next))
    go true s = refl
    go false true = refl
    go false false = refl
