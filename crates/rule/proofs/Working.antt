-- Laws of a working array of points.
use mathlib.Core.Path.{◌≡◌, sym, ap, refl}
use Prim.Native.Nat.{ℕ, suc, ◌+◌, ◌-◌, ◌*◌, ◌≤◌, ◌<◌}
use native.Mathlib.Omega.{arith}
use native.Mathlib.Nat.{sub-zero}
use mathlib.Core.List.{List, [], ◌∷◌, ◌++◌, append-nil, append_assoc}
use lib.ListN.{length, take, drop, replicate, length-append, length-take, length-replicate, replicate-append-replicate}
use lib.Seq.{take-append_seam, drop_at}
use lib.IntN.{ℤ, pos}
use Rattle.plane.specs.declared.Point.{Point}
use Rattle.plane.specs.Words.{origin, points_of, flat_points}
use Rattle.plane.proofs.Arrays.{length-points, points-rest, points-append, flat_append, length-flat-points}
use Rattle.plane.proofs.AtStart.{start-length}
use Rattle.rule.specs.Working.{padded, work_of}

-- no points, padded, are zeros
pub padded-none : (n : ℕ) → padded n [] ≡ replicate (2 * n) (pos 0)
unfolding padded flat_points
padded-none n = ap (λ m. replicate (2 * m) (pos 0)) (sub-zero n)

-- otherwise there are two numbers for each point given
pub padded-length : (n : ℕ) (ps : List Point) → length ps ≤ n → length (padded n ps) ≡ 2 * n
unfolding padded
padded-length n ps few = omega (arith, length-append (flat_points ps) (replicate (2 * (n - length ps)) (pos 0)), length-flat-points ps, length-replicate (2 * (n - length ps)) (pos 0))

-- where all points given are there, there are no zeros
padded-full : (n : ℕ) (ps : List Point) → length ps ≡ n → padded n ps ≡ flat_points ps
unfolding padded
padded-full n ps e = let none : 2 * (n - length ps) ≡ 0 = omega arith in rw (none, append-nil (flat_points ps))

-- of no points given the array is as it was
pub work_none : (work : List ℤ) → work_of 0 [] work ≡ work
unfolding work_of padded flat_points
work_none work = refl

module _ (n : ℕ) (ps : List Point) (work : List ℤ) (few : length ps ≤ n) where
  -- past them the array is unchanged
  work-parts : work_of n ps work ≡ padded n ps ++ drop (2 * n) work
  unfolding work_of
  work-parts = rw (padded-length n ps few)

  -- its length stays
  pub work-length : 2 * n ≤ length work → length (work_of n ps work) ≡ length work
  unfolding work_of
  work-length h = start-length (padded n ps) work (rw (padded-length n ps few) h)

-- its points are those
pub work-points : (n : ℕ) (ps : List Point) (work : List ℤ) → take (length ps) (points_of (work_of n ps work)) ≡ ps
unfolding work_of padded
work-points n ps work =
    let zeros : List ℤ = replicate (2 * (n - length ps)) (pos 0) in
    rw (append_assoc (flat_points ps) zeros (drop (length (flat_points ps ++ zeros)) work), points-append ps (zeros ++ drop (length (flat_points ps ++ zeros)) work)) (take-append_seam ps _)

-- with the points that it has it is the same array
pub work-held : (n : ℕ) (work : List ℤ) → 2 * n ≤ length work → work ≡ work_of n (take n (points_of work)) work
work-held n work h =
    let ps : List Point = take n (points_of work) in
    let e : length ps ≡ n = omega (arith, length-take n (points_of work), length-points work) in
    rw (work-parts n ps work (omega arith), padded-full n ps e) (points-rest n work h)

-- a point (0, 0) after its points is zeros
padded-origin : (n : ℕ) (ps : List Point) → length ps < n → padded n (ps ++ (origin ∷ [])) ≡ padded n ps
unfolding padded flat_points
padded-origin n ps h =
    let e : 2 * (n - length ps) ≡ suc (suc (2 * (n - length (ps ++ (origin ∷ []))))) = omega (arith, length-append ps (origin ∷ [])) in
    rw (e, flat_append ps (origin ∷ [])) (append_assoc (flat_points ps) (pos 0 ∷ pos 0 ∷ []) _)

pub work-origin : (n : ℕ) (ps : List Point) (work : List ℤ) → length ps < n → work_of n (ps ++ (origin ∷ [])) work ≡ work_of n ps work
unfolding work_of
work-origin n ps work h = rw (padded-origin n ps h)

-- more places are more zeros
padded-more : (m n : ℕ) (ps : List Point) → length ps ≤ m → m ≤ n → padded n ps ≡ padded m ps ++ replicate (2 * (n - m)) (pos 0)
unfolding padded
padded-more m n ps few le =
    let e : 2 * (n - length ps) ≡ 2 * (m - length ps) + 2 * (n - m) = omega arith in
    rw (e, ← replicate-append-replicate (2 * (m - length ps)) (2 * (n - m)) (pos 0)) (sym (append_assoc (flat_points ps) (replicate (2 * (m - length ps)) (pos 0)) (replicate (2 * (n - m)) (pos 0))))

-- with other points in its first m places it is the same working array with those points
pub work-again : (m n : ℕ) (ps qs : List Point) (work : List ℤ) → length ps ≤ m → length qs ≤ m → m ≤ n → work_of m qs (work_of n ps work) ≡ work_of n qs work
work-again m n ps qs work h i le =
    let zeros : List ℤ = replicate (2 * (n - m)) (pos 0) in
    rw (work-parts m qs (work_of n ps work) i, work-parts n qs work (omega arith), work-parts n ps work (omega arith), padded-more m n ps h le, padded-more m n qs i le, append_assoc (padded m ps) zeros (drop (2 * n) work), append_assoc (padded m qs) zeros (drop (2 * n) work))
    (ap (λ (l : List ℤ). padded m qs ++ l) (drop_at (padded m ps) _ (2 * m) (padded-length m ps h)))
