-- Counting cells by several tests: the cells that an odd number of tests pass, and the sum over the tests of the cells that each passes. The two are
-- equal exactly when no cell of the range passes two tests.
use mathlib.Core.Path.{◌≡◌, sym, ap, refl, ◌∙◌}
use Prim.Native.Nat.{ℕ, zero, suc, ◌+◌, ◌*◌, ◌≤◌, ◌<◌}
use native.Mathlib.Omega.{arith}
use mathlib.Core.Bool.{Bool, true, false}
use mathlib.Core.List.{List}
use lib.ListN.{length}
use lib.IntN.{ℤ, pos, ◌+ℤ◌}
use lib.Dec.{ltb}
use borrow.Author.Tests.{ltb-true, ltb-false, lt-ltb}
use Rattle.plane.specs.Lists.{bit, count, odd, sum, sum_below}
use Rattle.plane.specs.Words.{low_end, range_size, cells_from, cells}
use Rattle.plane.proofs.Bools.{by, by-no, is_odd, bit-most}
use Rattle.plane.proofs.Sums.{count-sum, count-length, below-cong, below-le, below-plus, below-times, below-sum, below-has, below-find}
use Rattle.plane.proofs.Parity.{odd-count}
use Rattle.plane.proofs.Grid.{placed, CellInRange}

-- ---- Weights of cells

-- the sum of a weight over the cells of the range
unfoldable total : (ℤ → ℤ → ℕ) → ℕ
total w = sum_below range_size (λ i. sum_below range_size (λ j. w (low_end +ℤ pos i) (low_end +ℤ pos j)))

-- cells that pass weigh 1
total-cells : (t : ℤ → ℤ → Bool) → cells t ≡ total (λ a b. bit (t a b))
unfolding total cells cells_from
total-cells t = refl

-- smaller weights, two weights added, and a weight taken m times
total-le : (u v : ℤ → ℤ → ℕ) → ((a b : ℤ) → u a b ≤ v a b) → total u ≤ total v
unfolding total
total-le u v h = below-le range_size _ _ (λ i. below-le range_size _ _ (λ j. h (low_end +ℤ pos i) (low_end +ℤ pos j)))

total-plus : (u v : ℤ → ℤ → ℕ) → total (λ a b. u a b + v a b) ≡ total u + total v
unfolding total
total-plus u v = below-cong range_size (λ i. below-plus range_size _ _) ∙ below-plus range_size _ _

total-times : (m : ℕ) (u : ℤ → ℤ → ℕ) → total (λ a b. u a b * m) ≡ total u * m
unfolding total
total-times m u = below-cong range_size (λ i. below-times range_size m _) ∙ below-times range_size m _

-- a cell of the range weighs at most the total
total-has : (w : ℤ → ℤ → ℕ) (a b : ℤ) → CellInRange a b → w a b ≤ total w
unfolding total
total-has w a b h =
    let i = placed low_end a range_size h.0.0 h.0.1 in
    let j = placed low_end b range_size h.1.0 h.1.1 in
    let row : ℤ → ℕ = λ c. sum_below range_size (λ k. w c (low_end +ℤ pos k)) in
    let one : w a (low_end +ℤ pos j.0) ≤ row a = below-has (λ k. w a (low_end +ℤ pos k)) j.1 in
    let all : row (low_end +ℤ pos i.0) ≤ sum_below range_size (λ k. row (low_end +ℤ pos k)) = below-has (λ k. row (low_end +ℤ pos k)) i.1 in
    let e : w a b ≡ w a (low_end +ℤ pos j.0) = ap (w a) j.2 in
    let f : row a ≡ row (low_end +ℤ pos i.0) = ap row i.2 in
    omega arith

-- where the total is not 0, a cell weighs something
total-find : (w : ℤ → ℤ → ℕ) → 0 < total w → (a : ℤ) × (b : ℤ) × (0 < w a b)
unfolding total
total-find w h =
    let r = below-find range_size _ h in
    let s = below-find range_size _ r.2 in
    (low_end +ℤ pos r.0, low_end +ℤ pos s.0, s.2)

-- ---- Tests

-- of a number: 1 where it is odd and 1 where it is over 1 are at most it
number-low : (n : ℕ) → bit (is_odd n) + bit (ltb 1 n) ≤ n
unfolding is_odd
number-low zero = omega arith
number-low (suc zero) = omega arith
number-low (suc (suc n)) = omega (arith, bit-most (is_odd (suc (suc n))), bit-most (ltb 1 (suc (suc n))))

-- and 1 where it is odd and m where it is over 1 are at least it, where m is
number-high : (n m : ℕ) → n ≤ m → n ≤ bit (is_odd n) + bit (ltb 1 n) * m
unfolding is_odd
number-high zero m h = omega arith
number-high (suc zero) m h = omega arith
number-high (suc (suc n)) m h = rw (lt-ltb 1 (suc (suc n)) (omega arith)) (omega arith)

-- of how many tests one cell passes
module _ {A : Type 0} (f : A → Bool) (l : List A) where
  cell-low : bit (odd f l) + bit (ltb 1 (count f l)) ≤ count f l
  cell-low = rw (odd-count f l) (number-low (count f l))

  cell-high : count f l ≤ bit (odd f l) + bit (ltb 1 (count f l)) * length l
  cell-high = rw (odd-count f l) (number-high (count f l) (length l) (count-length f l))

module _ {A : Type 0} (f : ℤ → ℤ → A → Bool) (l : List A) where
  -- how many tests a cell passes, whether it passes an odd number of them, and whether it passes more than one
  abbrev passes : ℤ → ℤ → ℕ
  passes a b = count (f a b) l

  abbrev oddly : ℤ → ℤ → Bool
  oddly a b = odd (f a b) l

  abbrev twice : ℤ → ℤ → Bool
  twice a b = ltb 1 (count (f a b) l)

  -- the cells that each test passes, added up
  abbrev areas : ℕ
  areas = sum (λ v. cells (λ a b. f a b v)) l

  -- they are how many tests each cell passes, added up
  areas-total : areas ≡ total passes
  unfolding total cells cells_from
  areas-total = sym (below-sum range_size _ l) ∙ below-cong range_size (λ i. line (low_end +ℤ pos i))
    where
      line : (a : ℤ) → sum (λ v. sum_below range_size (λ j. bit (f a (low_end +ℤ pos j) v))) l ≡ sum_below range_size (λ j. count (f a (low_end +ℤ pos j)) l)
      line a = sym (below-sum range_size (λ j v. bit (f a (low_end +ℤ pos j) v)) l) ∙ below-cong range_size (λ j. sym (count-sum (f a (low_end +ℤ pos j)) l))

  -- they are at least the cells that an odd number of tests pass, with those that more than one passes
  areas-low : cells oddly + cells twice ≤ areas
  areas-low = omega (arith, areas-total, total-cells oddly, total-cells twice, total-plus (λ a b. bit (oddly a b)) (λ a b. bit (twice a b)), total-le (λ a b. bit (oddly a b) + bit (twice a b)) passes (λ a b. cell-low (f a b) l))

  -- and at most that, where these count as often as there are tests
  areas-high : areas ≤ cells oddly + cells twice * length l
  areas-high = omega (arith, areas-total, total-cells oddly, ap (λ n. n * length l) (total-cells twice), total-times (length l) (λ a b. bit (twice a b)), total-plus (λ a b. bit (oddly a b)) (λ a b. bit (twice a b) * length l), total-le passes (λ a b. bit (oddly a b) + bit (twice a b) * length l) (λ a b. cell-high (f a b) l))

  -- THE AREAS: there are cells that pass two tests exactly when the areas together are more than the cells that pass an odd number of tests
  pub areas-tell : ltb 0 (cells (λ a b. ltb 1 (count (f a b) l))) ≡ ltb (cells (λ a b. odd (f a b) l)) (sum (λ v. cells (λ a b. f a b v)) l)
  areas-tell = go _ _ _ areas-low areas-high
    where
      go : (o t s : ℕ) → o + t ≤ s → s ≤ o + t * length l → ltb 0 t ≡ ltb o s
      go o zero s h k = sym (by-no (ltb o s) (λ d. let g = ltb-true o s d in omega arith))
      go o (suc t) s h k = lt-ltb 0 (suc t) (omega arith) ∙ sym (lt-ltb o s (omega arith))

  -- where there are none, a cell of the range passes at most one
  pub areas-apart : ltb 0 (cells (λ a b. ltb 1 (count (f a b) l))) ≡ false → (a b : ℤ) → CellInRange a b → count (f a b) l ≤ 1
  areas-apart e a b r =
      let h = total-has (λ a b. bit (twice a b)) a b r in
      let n = ltb-false 0 (cells twice) e in
      let k = total-cells twice in
      ltb-false 1 (passes a b) (by-no _ (λ d. let one : bit (twice a b) ≡ 1 = ap bit d in omega arith))

  -- where there are some, one of them
  pub areas-find : ltb 0 (cells (λ a b. ltb 1 (count (f a b) l))) ≡ true → (a : ℤ) × (b : ℤ) × (2 ≤ count (f a b) l)
  areas-find e =
      let n = ltb-true 0 (cells twice) e in
      let r = total-find (λ a b. bit (twice a b)) (omega (arith, total-cells twice)) in
      (r.0, r.1, ltb-true 1 (passes r.0 r.1) (by _ (λ d. let none : bit (twice r.0 r.1) ≡ 0 = ap bit d in omega (arith, r.2))))
