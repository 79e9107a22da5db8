-- Request 1: the edge of points in range with even rows and columns is the number of unit sides with a marked cell on exactly one side. So it goes
-- by the marked cells.
use mathlib.Core.Path.{◌≡◌, refl, sym, ap, ap₂, fun_ext, ◌∙◌}
use Prim.Native.Nat.{ℕ, ◌+◌, ◌*◌, ◌≤◌}
use native.Mathlib.Omega.{arith}
use mathlib.Core.Logic.{◌⊎◌, inl, inr, ⊎_elim}
use mathlib.Core.Bool.{Bool, true, false, ◌&&◌, xor, and_comm, and-true}
use mathlib.Core.List.{List, map, Memᴰ as In}
use lib.ListN.{length, length-map}
use lib.IntN.{ℤ, pos, pred_ℤ, ◌+ℤ◌}
use lib.Signed.{le_z, lt_z}
use Rattle.plane.specs.declared.Point.{Point}
use Rattle.plane.specs.Lists.{bit, odd}
use Rattle.plane.specs.Words.{eq_z, low_end, high_end, range_size, in_range, point_in_range, on_row, in_column, under, marks, cells_from}
use Rattle.plane.specs.Sorted.{sorted_by}
use Rattle.plane.specs.Remaining.{Balanced}
use Rattle.plane.specs.Edge.{pairs, line, line_edge, x_of, y_of, edge_length, lower_side, left_side, unit_sides}
use Rattle.plane.proofs.Order.{order, eq_z-is, eq_z-refl, pos-up, neg-up, pred-up, range-up}
use Rattle.plane.proofs.Bools.{clash, by, and_parts, and-make}
use Rattle.plane.proofs.Sums.{below-cong, below-swap}
use Rattle.plane.proofs.Maps.{map-all}
use Rattle.plane.proofs.Parity.{odd-cong, odd-xor, odd-find, classes-even}
use Rattle.plane.proofs.Grid.{CellInRange}
use Rattle.plane.proofs.Sorted.{IsOrder, sorted-sum, sorted-in, sorted-length, sorted-twice}
use Rattle.plane.proofs.Lines.{pairs-most, line-odd, lines-count, lined_before, lines-ordered, lines-in-order}

-- ---- A unit side counts where an odd number of its line's points are at or before it

-- of two neighbours on an axis, just one has a number at or below, where the number is the second
neighbours : (b y : ℤ) (t : Bool) → xor (le_z y (pred_ℤ b) && t) (le_z y b && t) ≡ (eq_z y b && t)
unfolding xor
neighbours b y t = go (le_z y (pred_ℤ b)) refl (le_z y b) refl (eq_z y b) refl t
  where
    go : (r : Bool) → le_z y (pred_ℤ b) ≡ r → (s : Bool) → le_z y b ≡ s → (e : Bool) → eq_z y b ≡ e → (t : Bool) → xor (r && t) (s && t) ≡ (e && t)
    go true d true f true g t = absurd (omega (order, pred-up b))
    go true d true f false g true = refl
    go true d true f false g false = refl
    go true d false f e g t = absurd (omega (order, pred-up b))
    go false d true f true g true = refl
    go false d true f true g false = refl
    go false d true f false g t = absurd (omega (order, pred-up b))
    go false d false f true g t = absurd (omega order)
    go false d false f false g t = refl

-- the lower side of a cell: of the points on its row, an odd number are at or left of it
lower-is : (ps : List Point) (a b : ℤ) → lower_side (marks ps) a b ≡ odd (λ x. le_z x a) (line y_of x_of b ps)
unfolding lower_side marks under
lower-is ps a b =
    sym (odd-xor (under a (pred_ℤ b)) (under a b) ps)
    ∙ odd-cong _ (λ p. eq_z p.y b && le_z p.x a) ps (λ p m. ap₂ xor (and_comm (le_z p.x a) (le_z p.y (pred_ℤ b))) (and_comm (le_z p.x a) (le_z p.y b)) ∙ neighbours b p.y (le_z p.x a))
    ∙ sym (line-odd y_of x_of (λ x. le_z x a) b ps)

-- the left side: of the points of its column, an odd number are at or below it
left_is : (ps : List Point) (a b : ℤ) → left_side (marks ps) a b ≡ odd (λ y. le_z y b) (line x_of y_of a ps)
unfolding left_side marks under
left_is ps a b =
    sym (odd-xor (under (pred_ℤ a) b) (under a b) ps)
    ∙ odd-cong _ (λ p. eq_z p.x a && le_z p.y b) ps (λ p m. neighbours a p.x (le_z p.y b))
    ∙ sym (line-odd x_of y_of (λ y. le_z y b) a ps)

-- ---- The edge is the number of unit sides

-- in a square, for points inside it
module _ (z : ℤ) (n : ℕ) (ps : List Point) (inside : (p : Point) → In p ps → ((le_z z p.x ≡ true) × (lt_z p.x (z +ℤ pos n) ≡ true)) × ((le_z z p.y ≡ true) × (lt_z p.y (z +ℤ pos n) ≡ true))) where
  -- the rows count the lower sides
  square-rows : ((y : ℤ) → odd (on_row y) ps ≡ false) → line_edge y_of x_of ps ≡ cells_from z n (lower_side (marks ps))
  unfolding cells_from on_row
  square-rows rows = sym (below-swap n n (λ i j. bit (lower_side (marks ps) (z +ℤ pos i) (z +ℤ pos j))) ∙ below-cong n (λ j. below-cong n (λ i. ap bit (lower-is ps (z +ℤ pos i) (z +ℤ pos j)))) ∙ lines-count y_of x_of z n ps (λ p m. let h = inside p m in (h.1, h.0)) rows)

  -- the columns count the left sides
  square-columns : ((x : ℤ) → odd (in_column x) ps ≡ false) → line_edge x_of y_of ps ≡ cells_from z n (left_side (marks ps))
  unfolding cells_from in_column
  square-columns columns = sym (below-cong n (λ i. below-cong n (λ j. ap bit (left_is ps (z +ℤ pos i) (z +ℤ pos j)))) ∙ lines-count x_of y_of z n ps inside columns)

-- a number in range lies between the ends of the square in which unit sides are counted
pub ends : (c : ℤ) → in_range c ≡ true → (le_z low_end c ≡ true) × (lt_z c (low_end +ℤ pos (range_size + 1)) ≡ true)
ends c d = let r = range-up c d in (omega (order, neg-up 999_999_999), omega (order, pos-up 1_000_000_001))

-- the edge is the number of unit sides with a marked cell on exactly one side
pub edge-counts : (ps : List Point) → Balanced ps → edge_length ps ≡ unit_sides (marks ps)
unfolding edge_length unit_sides point_in_range
edge-counts ps h = ap₂ ◌+◌ (square-rows low_end (range_size + 1) ps inside h.rows) (square-columns low_end (range_size + 1) ps inside h.columns)
  where
    inside : (p : Point) → In p ps → ((le_z low_end p.x ≡ true) × (lt_z p.x (low_end +ℤ pos (range_size + 1)) ≡ true)) × ((le_z low_end p.y ≡ true) × (lt_z p.y (low_end +ℤ pos (range_size + 1)) ≡ true))
    inside p m = let r = and_parts (in_range p.x) (in_range p.y) (h.range p m) in (ends p.x r.0, ends p.y r.1)

-- so points that mark the same cells have the same edge
pub marks-edge : (ps qs : List Point) → Balanced ps → Balanced qs → ((a b : ℤ) → marks ps a b ≡ marks qs a b) → edge_length ps ≡ edge_length qs
marks-edge ps qs h g e = edge-counts ps h ∙ ap unit_sides (fun_ext (λ a. fun_ext (λ b. e a b))) ∙ sym (edge-counts qs g)

-- ---- No marked cell and no unit side lies out of the range

-- where every line is even, an even number of points is on the lines that pass a test
pub even-lines : (across : Point → ℤ) (ps : List Point) → ((k : ℤ) → odd (λ p. eq_z (across p) k) ps ≡ false) → (t : ℤ → Bool) → odd (λ p. t (across p)) ps ≡ false
even-lines across ps even t =
    odd-cong _ (λ p. t (across p) && true) ps (λ p m. sym (and-true (t (across p))))
    ∙ classes-even across eq_z eq_z-is eq_z-refl (λ p. true) t ps (λ q m e. odd-cong _ (λ p. eq_z (across p) (across q)) ps (λ p n. and-true (eq_z (across p) (across q))) ∙ even (across q))

-- of two cells, exactly one of which is marked, one is
either : (s t : Bool) → xor s t ≡ true → (s ≡ true) ⊎ (t ≡ true)
unfolding xor
either true t e = inl refl
either false true e = inr refl
either false false e = clash e refl

-- a number between its ends is in range
in-range : (c : ℤ) → le_z low_end c ≡ true → le_z c high_end ≡ true → in_range c ≡ true
unfolding in_range
in-range c l h = and-make (le_z low_end c) (le_z c high_end) l h

module _ (ps : List Point) (h : Balanced ps) where
  -- both coordinates of a point
  coordinates : (p : Point) → In p ps → (in_range p.x ≡ true) × (in_range p.y ≡ true)
  unfolding point_in_range
  coordinates p m = and_parts (in_range p.x) (in_range p.y) (h.range p m)

  -- right of all points, and above all, nothing is marked
  marks-right : (a b : ℤ) → lt_z a high_end ≡ false → marks ps a b ≡ false
  unfolding marks under on_row
  marks-right a b n = odd-cong _ (λ p. le_z p.y b) ps (λ p m. let u = range-up p.x (coordinates p m).0 in let l : le_z p.x a ≡ true = omega (order, pos-up 1_000_000_000) in rw l) ∙ even-lines y_of ps h.rows (λ y. le_z y b)

  marks-above : (a b : ℤ) → lt_z b high_end ≡ false → marks ps a b ≡ false
  unfolding marks under in_column
  marks-above a b n = odd-cong _ (λ p. le_z p.x a) ps (λ p m. let u = range-up p.y (coordinates p m).1 in let l : le_z p.y b ≡ true = omega (order, pos-up 1_000_000_000) in rw l (and-true (le_z p.x a))) ∙ even-lines x_of ps h.columns (λ x. le_z x a)

  -- a marked cell is one of the range
  pub marked-inside : (a b : ℤ) → marks ps a b ≡ true → CellInRange a b
  unfolding marks under
  marked-inside a b e =
      let r = odd-find (under a b) ps e in
      let g = coordinates r.0 r.1 in
      let u = and_parts (le_z r.0.x a) (le_z r.0.y b) r.2 in
      let x = range-up r.0.x g.0 in
      let y = range-up r.0.y g.1 in
      let d = neg-up 999_999_999 in
      ((omega order, by (lt_z a high_end) (λ n. clash e (marks-right a b n))), (omega order, by (lt_z b high_end) (λ n. clash e (marks-above a b n))))

  -- a unit side that counts is the lower or the left side of a cell that is counted
  pub lower-inside : (a b : ℤ) → lower_side (marks ps) a b ≡ true → (in_range a ≡ true) × (in_range b ≡ true)
  unfolding lower_side
  lower-inside a b e = ⊎_elim
      (λ d. let m = marked-inside a (pred_ℤ b) d in (in-range a (omega order) (omega order), in-range b (omega (order, pred-up b)) (omega (order, pred-up b))))
      (λ d. let m = marked-inside a b d in (in-range a (omega order) (omega order), in-range b (omega order) (omega order)))
      (either (marks ps a (pred_ℤ b)) (marks ps a b) e)

  pub left-inside : (a b : ℤ) → left_side (marks ps) a b ≡ true → (in_range a ≡ true) × (in_range b ≡ true)
  unfolding left_side
  left-inside a b e = ⊎_elim
      (λ d. let m = marked-inside (pred_ℤ a) b d in (in-range a (omega (order, pred-up a)) (omega (order, pred-up a)), in-range b (omega order) (omega order)))
      (λ d. let m = marked-inside a b d in (in-range a (omega order) (omega order), in-range b (omega order) (omega order)))
      (either (marks ps (pred_ℤ a) b) (marks ps a b) e)

-- ---- While the points stand in order

-- by y, then x, and by x, then y
pub rows-ordered : IsOrder (lined_before y_of x_of)
rows-ordered = lines-ordered y_of x_of (λ p q e. e)

pub columns-ordered : IsOrder (lined_before x_of y_of)
columns-ordered = lines-ordered x_of y_of (λ p q e. ap (λ r. record { x = r.y; y = r.x }) e)

-- n points have an edge of at most n times the range's size
pub edge-most : (ps : List Point) → Balanced ps → edge_length ps ≤ length ps * range_size
unfolding edge_length on_row in_column
edge-most ps h = omega (arith, half y_of x_of rows-ordered h.rows (λ p m. (coordinates ps h p m).0), half x_of y_of columns-ordered h.columns (λ p m. (coordinates ps h p m).1))
  where
    half : (across along : Point → ℤ) → IsOrder (lined_before across along) → ((k : ℤ) → odd (λ p. eq_z (across p) k) ps ≡ false) → ((p : Point) → In p ps → in_range (along p) ≡ true) → 2 * line_edge across along ps ≤ length ps * range_size
    half across along is even range =
        let qs = sorted_by (lined_before across along) ps in
        let e : line_edge across along ps ≡ pairs (map along qs) = lines-in-order across along is (record { sums = λ w. sym (sorted-sum is w ps) }) (sorted-twice is ps) even in
        let n : length (map along qs) ≡ length ps = length-map qs along ∙ sorted-length is ps in
        omega (arith, pairs-most (map along qs) (map-all (λ x. in_range x ≡ true) along qs (λ p m. range p (sorted-in is ps m))))
