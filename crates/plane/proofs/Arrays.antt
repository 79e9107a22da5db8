-- Points and rectangles as arrays of numbers, and back.
use mathlib.Core.Path.{◌≡◌, refl, ap, ◌∙◌}
use Prim.Native.Nat.{ℕ, zero, suc, ◌+◌, ◌*◌, ◌/◌, ◌<◌, ◌≤◌}
use native.Mathlib.Nat.{suc-add}
use native.Mathlib.Numerals.{add-one}
use native.Mathlib.Omega.{arith}
use mathlib.Core.List.{List, [], ◌∷◌, ◌++◌}
use lib.ListN.{length, get_or, take, drop, set}
use lib.Seq.{take-suc}
use lib.IntN.{ℤ, pos}
use Rattle.plane.specs.declared.Point.{Point}
use Rattle.plane.specs.declared.Rect.{Rect}
use Rattle.plane.specs.Words.{origin, points_of, flat_points, rect_size, fours_of, rects_of, flat_rects}

-- ---- Points

-- an array has half as many points as numbers
pub length-points : (a : List ℤ) → length (points_of a) ≡ length a / 2
unfolding points_of
length-points [] = refl
length-points (x ∷ []) = refl
length-points (x ∷ y ∷ rest) = let h = length-points rest in omega arith

-- two numbers more for one place more
pub twice-suc : (i : ℕ) → 2 * suc i ≡ suc (suc (2 * i))
twice-suc i = omega arith

-- the point at place i has the numbers at 2i and 2i + 1
pub point-numbers : (a : List ℤ) (i : ℕ) → 2 * i + 1 < length a → get_or (points_of a) i origin ≡ record { x = get_or a (2 * i) (pos 0); y = get_or a (2 * i + 1) (pos 0) }
unfolding points_of
point-numbers [] i h = absurd (omega arith)
point-numbers (x ∷ []) i h = absurd (omega arith)
point-numbers (x ∷ y ∷ rest) zero h = refl
point-numbers (x ∷ y ∷ rest) (suc i) h = rw (add-one, twice-suc i) (point-numbers rest i (omega arith) ∙ rw add-one)

-- fewer than two numbers are no point
pub points-none : (a : List ℤ) → length a < 2 → points_of a ≡ []
unfolding points_of
points-none [] h = refl
points-none (x ∷ []) h = refl
points-none (x ∷ y ∷ rest) h = absurd (omega arith)

-- two numbers are a point, and the points of those after them come after it
pub points-first : (a : List ℤ) → 2 ≤ length a → points_of a ≡ record { x = get_or a 0 (pos 0); y = get_or a 1 (pos 0) } ∷ points_of (drop 2 a)
unfolding points_of
points-first [] h = absurd (omega arith)
points-first (x ∷ []) h = absurd (omega arith)
points-first (x ∷ y ∷ rest) h = refl

-- the points before the place after i
pub points-next : (a : List ℤ) (i : ℕ) → i < length a / 2 → take (i + 1) (points_of a) ≡ take i (points_of a) ++ (get_or (points_of a) i origin ∷ [])
points-next a i h = rw add-one (take-suc (points_of a) i origin (omega (arith, length-points a)))

-- the points of the numbers before a place are those before it
pub points-take : (n : ℕ) (a : List ℤ) → points_of (take (2 * n) a) ≡ take n (points_of a)
unfolding points_of
points-take zero a = refl
points-take (suc n) [] = rw (twice-suc n)
points-take (suc n) (x ∷ []) = rw (twice-suc n)
points-take (suc n) (x ∷ y ∷ rest) = rw (twice-suc n) (ap (λ l. record { x = x; y = y } ∷ l) (points-take n rest))

-- points as an array are twice as many numbers
pub length-flat-points : (ps : List Point) → length (flat_points ps) ≡ 2 * length ps
unfolding flat_points
length-flat-points [] = refl
length-flat-points (p ∷ ps) = let h = length-flat-points ps in omega arith

-- points written as an array are read back
pub points-flat : (ps : List Point) → points_of (flat_points ps) ≡ ps
unfolding points_of flat_points
points-flat [] = refl
points-flat (p ∷ ps) = ap (λ l. p ∷ l) (points-flat ps)

-- points at the start of an array are its first points
pub points-append : (ps : List Point) (rest : List ℤ) → points_of (flat_points ps ++ rest) ≡ ps ++ points_of rest
unfolding points_of flat_points
points-append [] rest = refl
points-append (p ∷ ps) rest = ap (λ l. p ∷ l) (points-append ps rest)

-- points after points are their numbers after theirs
pub flat_append : (ps qs : List Point) → flat_points (ps ++ qs) ≡ flat_points ps ++ flat_points qs
unfolding flat_points
flat_append [] qs = refl
flat_append (p ∷ ps) qs = ap (λ (l : List ℤ). p.x ∷ p.y ∷ l) (flat_append ps qs)

-- an array is its first points and the rest
pub points-rest : (n : ℕ) (a : List ℤ) → 2 * n ≤ length a → a ≡ flat_points (take n (points_of a)) ++ drop (2 * n) a
unfolding points_of flat_points
points-rest zero a h = refl
points-rest (suc n) [] h = absurd (omega arith)
points-rest (suc n) (x ∷ []) h = absurd (omega arith)
points-rest (suc n) (x ∷ y ∷ rest) h = rw (twice-suc n) (ap (λ (l : List ℤ). x ∷ y ∷ l) (points-rest n rest (omega arith)))

-- ---- Items of four numbers

-- four numbers more for one place more
four-suc : (i : ℕ) → 4 * suc i ≡ suc (suc (suc (suc (4 * i))))
four-suc i = omega arith

module _ {A : Type 0} (make : ℤ → ℤ → ℤ → ℤ → A) where
  -- an array has a quarter as many as numbers
  pub length-fours : (a : List ℤ) → length (fours_of make a) ≡ length a / 4
  unfolding fours_of
  length-fours [] = refl
  length-fours (x ∷ []) = refl
  length-fours (x ∷ y ∷ []) = refl
  length-fours (x ∷ y ∷ w ∷ []) = refl
  length-fours (x ∷ y ∷ w ∷ h ∷ rest) = let i = length-fours rest in omega arith

  -- the one at place i is made of the four numbers from 4i on
  pub four-numbers : (a : List ℤ) (i : ℕ) (d : A) → 4 * i + 3 < length a → get_or (fours_of make a) i d ≡ make (get_or a (4 * i) (pos 0)) (get_or a (4 * i + 1) (pos 0)) (get_or a (4 * i + 2) (pos 0)) (get_or a (4 * i + 3) (pos 0))
  unfolding fours_of
  four-numbers [] i d l = absurd (omega arith)
  four-numbers (x ∷ []) i d l = absurd (omega arith)
  four-numbers (x ∷ y ∷ []) i d l = absurd (omega arith)
  four-numbers (x ∷ y ∷ w ∷ []) i d l = absurd (omega arith)
  four-numbers (x ∷ y ∷ w ∷ h ∷ rest) zero d l = refl
  four-numbers (x ∷ y ∷ w ∷ h ∷ rest) (suc i) d l = simp (four-suc, suc-add) (four-numbers rest i d (omega arith))

  -- four numbers set from 4i on are one set at i
  pub fours-set : (a : List ℤ) (i : ℕ) (p q r s : ℤ) → 4 * i + 3 < length a → fours_of make (set (set (set (set a (4 * i) p) (4 * i + 1) q) (4 * i + 2) r) (4 * i + 3) s) ≡ set (fours_of make a) i (make p q r s)
  unfolding fours_of
  fours-set [] i p q r s l = absurd (omega arith)
  fours-set (x ∷ []) i p q r s l = absurd (omega arith)
  fours-set (x ∷ y ∷ []) i p q r s l = absurd (omega arith)
  fours-set (x ∷ y ∷ w ∷ []) i p q r s l = absurd (omega arith)
  fours-set (x ∷ y ∷ w ∷ h ∷ rest) zero p q r s l = refl
  fours-set (x ∷ y ∷ w ∷ h ∷ rest) (suc i) p q r s l = simp (four-suc, suc-add) (ap (λ (m : List A). make x y w h ∷ m) (fours-set rest i p q r s (omega arith)))

  -- fewer than four numbers make none
  pub fours-none : (a : List ℤ) → length a < 4 → fours_of make a ≡ []
  unfolding fours_of
  fours-none [] l = refl
  fours-none (x ∷ []) l = refl
  fours-none (x ∷ y ∷ []) l = refl
  fours-none (x ∷ y ∷ w ∷ []) l = refl
  fours-none (x ∷ y ∷ w ∷ h ∷ rest) l = absurd (omega arith)

  -- four numbers make one, and those after them the ones after it
  pub fours-first : (a : List ℤ) → 4 ≤ length a → fours_of make a ≡ make (get_or a 0 (pos 0)) (get_or a 1 (pos 0)) (get_or a 2 (pos 0)) (get_or a 3 (pos 0)) ∷ fours_of make (drop 4 a)
  unfolding fours_of
  fours-first [] l = absurd (omega arith)
  fours-first (x ∷ []) l = absurd (omega arith)
  fours-first (x ∷ y ∷ []) l = absurd (omega arith)
  fours-first (x ∷ y ∷ w ∷ []) l = absurd (omega arith)
  fours-first (x ∷ y ∷ w ∷ h ∷ rest) l = refl

-- ---- Rectangles

-- fewer than four numbers are no rectangle
pub rects-none : (a : List ℤ) → length a < rect_size → rects_of a ≡ []
unfolding rects_of
rects-none a l = fours-none _ a l

-- four numbers are a rectangle, and the rectangles of those after them come after it
pub rects-first : (a : List ℤ) → rect_size ≤ length a → rects_of a ≡ record { x = get_or a 0 (pos 0); y = get_or a 1 (pos 0); w = get_or a 2 (pos 0); h = get_or a 3 (pos 0) } ∷ rects_of (drop rect_size a)
unfolding rects_of
rects-first a l = fours-first _ a l

-- an array has a quarter as many rectangles as numbers
pub length-rects : (a : List ℤ) → length (rects_of a) ≡ length a / rect_size
unfolding rects_of
length-rects a = length-fours _ a

-- the rectangle at place i has the four numbers from 4i on
pub rect-numbers : (a : List ℤ) (i : ℕ) → rect_size * i + 3 < length a → get_or (rects_of a) i (record { x = pos 0; y = pos 0; w = pos 0; h = pos 0 }) ≡ record { x = get_or a (rect_size * i) (pos 0); y = get_or a (rect_size * i + 1) (pos 0); w = get_or a (rect_size * i + 2) (pos 0); h = get_or a (rect_size * i + 3) (pos 0) }
unfolding rects_of
rect-numbers a i l = four-numbers _ a i _ l

-- rectangles as an array are so many times as many numbers
pub length-flat-rects : (rs : List Rect) → length (flat_rects rs) ≡ rect_size * length rs
unfolding flat_rects
length-flat-rects [] = refl
length-flat-rects (r ∷ rs) = let h = length-flat-rects rs in omega arith

-- rectangles at the start of an array are its first rectangles
pub rects-append : (rs : List Rect) (rest : List ℤ) → rects_of (flat_rects rs ++ rest) ≡ rs ++ rects_of rest
unfolding rects_of fours_of flat_rects
rects-append [] rest = refl
rects-append (r ∷ rs) rest = ap (λ l. r ∷ l) (rects-append rs rest)

-- rectangles written as an array are read back
pub rects-flat : (rs : List Rect) → rects_of (flat_rects rs) ≡ rs
unfolding rects_of fours_of flat_rects
rects-flat [] = refl
rects-flat (r ∷ rs) = ap (λ l. r ∷ l) (rects-flat rs)

-- an array is its first rectangles and the rest
pub rects-rest : (n : ℕ) (a : List ℤ) → rect_size * n ≤ length a → a ≡ flat_rects (take n (rects_of a)) ++ drop (rect_size * n) a
unfolding rects_of fours_of flat_rects
rects-rest zero a h = refl
rects-rest (suc n) [] h = absurd (omega arith)
rects-rest (suc n) (x ∷ []) h = absurd (omega arith)
rects-rest (suc n) (x ∷ y ∷ []) h = absurd (omega arith)
rects-rest (suc n) (x ∷ y ∷ w ∷ []) h = absurd (omega arith)
rects-rest (suc n) (x ∷ y ∷ w ∷ t ∷ rest) h = rw (four-suc n) (ap (λ (l : List ℤ). x ∷ y ∷ w ∷ t ∷ l) (rects-rest n rest (omega arith)))

-- four numbers set from 4i on are a rectangle set at i
pub rects-set : (a : List ℤ) (i : ℕ) (r : Rect) → rect_size * i + 3 < length a → rects_of (set (set (set (set a (rect_size * i) r.x) (rect_size * i + 1) r.y) (rect_size * i + 2) r.w) (rect_size * i + 3) r.h) ≡ set (rects_of a) i r
unfolding rects_of
rects-set a i r l = fours-set _ a i r.x r.y r.w r.h l
