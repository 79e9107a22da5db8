-- The unit sides of rectangles: one has 2 · (W + H), and the cells that lie in an odd number of rectangles have at most those of all together.
use mathlib.Core.Path.{◌≡◌, refl, sym, ap, ap₂, fun_ext, ◌∙◌, subst}
use Prim.Native.Nat.{ℕ, ◌+◌, ◌*◌, ◌≤◌}
use native.Mathlib.Omega.{arith}
use mathlib.Core.Bool.{Bool, true, false, ◌&&◌, ◌||◌, xor, and_comm, and-false}
use mathlib.Core.List.{List}
use lib.IntN.{ℤ, pos, nat_abs, pred_ℤ, ◌+ℤ◌}
use lib.Signed.{le_z, lt_z}
use Rattle.plane.specs.declared.Rect.{Rect}
use Rattle.plane.specs.Lists.{bit, odd, sum, sum_below}
use Rattle.plane.specs.Words.{eq_z, low_end, range_size, in_range, right, top, rect_in_range, flat, edge_of, holds, cells_from}
use Rattle.plane.specs.Edge.{lower_side, left_side, unit_sides}
use Rattle.plane.proofs.Order.{order, add-more, pred-up}
use Rattle.plane.proofs.Bools.{and-four, or_parts}
use Rattle.plane.proofs.Sums.{sum-add, below-cong, below-sum, below-pairs, below-le, below-plus}
use Rattle.plane.proofs.Parity.{odd-xor, odd-most}
use Rattle.plane.proofs.Grid.{span}
use Rattle.plane.proofs.Different.{one_place}
use Rattle.plane.proofs.Edge.{ends}

-- ---- The unit sides of one rectangle

-- of a number and the one before it, just one lies from s up to e, where the number is s or e
ends-beside : (c s e : ℤ) → lt_z s e ≡ true → xor (le_z s (pred_ℤ c) && lt_z (pred_ℤ c) e) (le_z s c && lt_z c e) ≡ (eq_z c s || eq_z c e)
unfolding xor
ends-beside c s e h = go (lt_z c s) refl (eq_z c s) refl (lt_z c e) refl (eq_z c e) refl
  where
    go : (q : Bool) → lt_z c s ≡ q → (r : Bool) → eq_z c s ≡ r → (t : Bool) → lt_z c e ≡ t → (u : Bool) → eq_z c e ≡ u → xor (le_z s (pred_ℤ c) && lt_z (pred_ℤ c) e) (le_z s c && t) ≡ (r || u)
    go true d true f t g u k = absurd (omega order)
    go true d false f t g true k = absurd (omega order)
    go true d false f t g false k =
        let a : le_z s (pred_ℤ c) ≡ false = omega (order, pred-up c) in
        let b : le_z s c ≡ false = omega order in
        rw (a, b)
    go false d true f true g u k =
        let a : le_z s (pred_ℤ c) ≡ false = omega (order, pred-up c) in
        let b : le_z s c ≡ true = omega order in
        rw (a, b)
    go false d true f false g u k = absurd (omega order)
    go false d false f true g true k = absurd (omega order)
    go false d false f true g false k =
        let a : le_z s (pred_ℤ c) ≡ true = omega (order, pred-up c) in
        let b : lt_z (pred_ℤ c) e ≡ true = omega (order, pred-up c) in
        let i : le_z s c ≡ true = omega order in
        rw (a, b, i)
    go false d false f false g true k =
        let a : le_z s (pred_ℤ c) ≡ true = omega (order, pred-up c) in
        let b : lt_z (pred_ℤ c) e ≡ true = omega (order, pred-up c) in
        let i : le_z s c ≡ true = omega order in
        rw (a, b, i)
    go false d false f false g false k =
        let a : lt_z (pred_ℤ c) e ≡ false = omega (order, pred-up c) in
        let b : le_z s c ≡ true = omega order in
        rw (a, b, and-false (le_z s (pred_ℤ c)))

-- two ends are two of the n numbers from z on
ends-count : (z s e : ℤ) (n : ℕ) → le_z z s ≡ true → lt_z s e ≡ true → lt_z e (z +ℤ pos n) ≡ true → sum_below n (λ i. bit (eq_z (z +ℤ pos i) s || eq_z (z +ℤ pos i) e)) ≡ 2
ends-count z s e n h k l =
    below-cong n (λ i. apart (z +ℤ pos i) (eq_z (z +ℤ pos i) s) refl (eq_z (z +ℤ pos i) e) refl)
    ∙ below-plus n (λ i. bit (eq_z (z +ℤ pos i) s)) (λ i. bit (eq_z (z +ℤ pos i) e))
    ∙ ap₂ ◌+◌ (one_place z s n h (omega order)) (one_place z e n (omega order) l)
  where
    apart : (c : ℤ) (p : Bool) → eq_z c s ≡ p → (q : Bool) → eq_z c e ≡ q → bit (p || q) ≡ bit p + bit q
    apart c true d true f = absurd (omega order)
    apart c true d false f = refl
    apart c false d q f = omega arith

-- a conjunction of both sides of an exclusive or
and_xor : (t p q : Bool) → xor (t && p) (t && q) ≡ (t && xor p q)
unfolding xor
and_xor true p q = refl
and_xor false p q = refl

-- a rectangle between the ends of a square has 2 · W lower and 2 · H left sides there
module _ (z : ℤ) (n : ℕ) (r : Rect) (solid : flat r ≡ false) (low : (le_z z r.x ≡ true) × (le_z z r.y ≡ true)) (high : (lt_z (right r) (z +ℤ pos n) ≡ true) × (lt_z (top r) (z +ℤ pos n) ≡ true)) where
  -- the columns from its left side on, and the rows from its lower side on
  abbrev inside-x : ℤ → Bool
  inside-x c = le_z r.x c && lt_z c (right r)

  abbrev inside-y : ℤ → Bool
  inside-y c = le_z r.y c && lt_z c (top r)

  sizes : (lt_z r.w (pos 1) ≡ false) × (lt_z r.h (pos 1) ≡ false)
  unfolding flat
  sizes = or_parts (lt_z r.w (pos 1)) (lt_z r.h (pos 1)) solid

  wide : lt_z r.x (right r) ≡ true
  wide = add-more r.x r.w sizes.0

  tall : lt_z r.y (top r) ≡ true
  tall = add-more r.y r.h sizes.1

  lower-count : cells_from z n (lower_side (λ a b. holds a b r)) ≡ nat_abs r.w * 2
  unfolding cells_from lower_side holds
  lower-count =
      below-cong n (λ i. below-cong n (λ j. let a = z +ℤ pos i in let b = z +ℤ pos j in ap bit (and_xor (inside-x a) (inside-y (pred_ℤ b)) (inside-y b) ∙ ap (λ t. inside-x a && t) (ends-beside b r.y (top r) tall))))
      ∙ below-pairs (λ i. inside-x (z +ℤ pos i)) (λ j. eq_z (z +ℤ pos j) r.y || eq_z (z +ℤ pos j) (top r)) n n
      ∙ ap₂ ◌*◌ (span z r.x r.w n sizes.0 low.0 (let h = high.0 in omega order)) (ends-count z r.y (top r) n low.1 tall high.1)

  left-count : cells_from z n (left_side (λ a b. holds a b r)) ≡ 2 * nat_abs r.h
  unfolding cells_from left_side holds
  left-count =
      below-cong n (λ i. below-cong n (λ j. let a = z +ℤ pos i in let b = z +ℤ pos j in ap bit (ap₂ xor (and_comm (inside-x (pred_ℤ a)) (inside-y b)) (and_comm (inside-x a) (inside-y b)) ∙ and_xor (inside-y b) (inside-x (pred_ℤ a)) (inside-x a) ∙ and_comm (inside-y b) _ ∙ ap (λ t. t && inside-y b) (ends-beside a r.x (right r) wide))))
      ∙ below-pairs (λ i. eq_z (z +ℤ pos i) r.x || eq_z (z +ℤ pos i) (right r)) (λ j. inside-y (z +ℤ pos j)) n n
      ∙ ap₂ ◌*◌ (ends-count z r.x (right r) n low.0 wide high.0) (span z r.y r.h n sizes.1 low.1 (let h = high.1 in omega order))

-- a rectangle in range has 2 · (W + H) unit sides
pub sides-hold : (r : Rect) → flat r ≡ false → rect_in_range r ≡ true → unit_sides (λ a b. holds a b r) ≡ edge_of r
unfolding unit_sides edge_of rect_in_range
sides-hold r f e =
    let h = and-four (in_range r.x) (in_range r.y) (in_range (right r)) (in_range (top r)) e in
    let low : (le_z low_end r.x ≡ true) × (le_z low_end r.y ≡ true) = ((ends r.x h.0).0, (ends r.y h.1).0) in
    let high : (lt_z (right r) (low_end +ℤ pos (range_size + 1)) ≡ true) × (lt_z (top r) (low_end +ℤ pos (range_size + 1)) ≡ true) = ((ends (right r) h.2).1, (ends (top r) h.3).1) in
    omega (arith, lower-count low_end (range_size + 1) r f low high, left-count low_end (range_size + 1) r f low high)

-- ---- The unit sides of cells that lie in an odd number of rectangles are at most those of the rectangles

-- in a square, for a test that each rectangle passes or not at each place
square-odd : (z : ℤ) (n : ℕ) (g : Rect → ℤ → ℤ → Bool) (rs : List Rect) → cells_from z n (λ a b. odd (λ r. g r a b) rs) ≤ sum (λ r. cells_from z n (g r)) rs
unfolding cells_from
square-odd z n g rs =
    let most = below-le n _ _ (λ i. below-le n _ _ (λ j. odd-most (λ r. g r (z +ℤ pos i) (z +ℤ pos j)) rs)) in
    let around = below-cong n (λ i. below-sum n (λ j r. bit (g r (z +ℤ pos i) (z +ℤ pos j))) rs) ∙ below-sum n (λ i r. sum_below n (λ j. bit (g r (z +ℤ pos i) (z +ℤ pos j)))) rs in
    subst (λ k. cells_from z n (λ a b. odd (λ r. g r a b) rs) ≤ k) around most

pub sides-odd : (rs : List Rect) → unit_sides (λ a b. odd (holds a b) rs) ≤ sum (λ r. unit_sides (λ a b. holds a b r)) rs
unfolding unit_sides lower_side left_side
sides-odd rs =
    let n : ℕ = range_size + 1 in
    let lowers : lower_side (λ a b. odd (holds a b) rs) ≡ (λ a b. odd (λ r. lower_side (λ c d. holds c d r) a b) rs) = fun_ext (λ a. fun_ext (λ b. sym (odd-xor (holds a (pred_ℤ b)) (holds a b) rs))) in
    let lefts : left_side (λ a b. odd (holds a b) rs) ≡ (λ a b. odd (λ r. left_side (λ c d. holds c d r) a b) rs) = fun_ext (λ a. fun_ext (λ b. sym (odd-xor (holds (pred_ℤ a) b) (holds a b) rs))) in
    rw (lowers, lefts) (omega (arith, square-odd low_end n (λ r. lower_side (λ a b. holds a b r)) rs, square-odd low_end n (λ r. left_side (λ a b. holds a b r)) rs, sum-add (λ r. cells_from low_end n (lower_side (λ a b. holds a b r))) (λ r. cells_from low_end n (left_side (λ a b. holds a b r))) rs))
