-- The number of steps. Each point weighs as much as there are different rows above it. A step takes two points of K's row away and adds
-- at most two of the stop row, which is higher, so the weights' sum falls by two or more: the run ends, after at most (n/2)(r - 1) steps.
use mathlib.Core.Path.{◌≡◌, refl, sym, ap, ◌∙◌}
use Prim.Native.Nat.{ℕ, zero, suc, ◌+◌, ◌-◌, ◌*◌, ◌/◌, ◌≤◌, ◌<◌}
use native.Mathlib.Omega.{arith}
use native.Mathlib.Nat.{mul-le-mul_left}
use mathlib.Core.Bool.{Bool, true, ◌&&◌, and-true}
use mathlib.Core.Logic.{◌⊎◌, inl, inr}
use mathlib.Core.List.{List, [], ◌∷◌, Memᴰ as In}
use lib.ListN.{length, length-map}
use lib.IntN.{ℤ}
use lib.Signed.{lt_z}
use Rattle.plane.specs.declared.Point.{Point}
use Rattle.plane.specs.declared.Rect.{Rect}
use Rattle.plane.specs.Lists.{any, count, sum}
use Rattle.plane.specs.Words.{eq_z, different, on_row}
use Rattle.plane.proofs.Order.{order, eq_z-is, eq_z-refl}
use Rattle.plane.proofs.Bools.{even-half, is_odd}
use Rattle.plane.proofs.Sums.{any-find, any-in, count_less, count-length, sum-most, sum-length}
use Rattle.plane.proofs.Maps.{map-in}
use Rattle.plane.proofs.Parity.{odd-sum, odd-cong}
use Rattle.plane.proofs.Different.{different-has, different-few}
use Rattle.rule.specs.Rule.{toggle_four, step, run, left_after, enough, rule_list, rows_of, row_count, Picked}
use Rattle.rule.specs.Rows.{Accepted}
use Rattle.rule.proofs.Picks.{level, higher, picks}
use Rattle.rule.proofs.Inside.{even-by-rows}
use Rattle.rule.proofs.Steps.{sum_step, step-all, step-keeps-accepted, Steps, stay, more, steps, steps-accepted, spent}

-- ---- The different rows

-- ---- The weights, over a list R of rows that has every point's row

abbrev Listed : List ℤ → List Point → Type 0
Listed R ps = (q : Point) → In q ps → any (eq_z q.y) R ≡ true

rows-listed : (ps : List Point) → Listed (different (rows_of ps)) ps
rows-listed ps q n = different-has q.y (rows_of ps) (any-in (eq_z q.y) (map-in (λ (p : Point). p.y) n) (eq_z-refl q.y))

-- the rows above one
rank : List ℤ → ℤ → ℕ
rank R y = count (lt_z y) R

-- a row has fewer rows above it than one below it, and than there are rows
rank_falls : (R : List ℤ) (f : ℤ → Bool) (y : ℤ) → any (eq_z y) R ≡ true → ((z : ℤ) → lt_z y z ≡ true → f z ≡ true) → f y ≡ true → rank R y < count f R
unfolding rank
rank_falls R f y e h g =
    let r = any-find (eq_z y) R e in
    let d = eq_z-is y r.0 r.2 in
    count_less (lt_z y) f h r.1 (rw (← d) (omega order)) (ap f (sym d) ∙ g)

weight : List ℤ → List Point → ℕ
weight R ps = sum (λ p. rank R p.y) ps

module _ {ps : List Point} {k l : Point} {m : ℤ} (c : Picked ps k l m) (R : List ℤ) (h : Listed R ps) where
  m-listed : any (eq_z m) R ≡ true
  m-listed = rw c.row-m at (h c.on-m c.first-m.within)

  step-listed : Listed R (toggle_four ps k l m)
  step-listed = step-all c (λ q. any (eq_z q.y) R) h m-listed m-listed

  step-weight : weight R (toggle_four ps k l m) + 2 ≤ weight R ps
  unfolding weight rank
  step-weight =
      let g = higher c in
      let falls = rank_falls R (lt_z k.y) m m-listed (λ z e. omega order) g in
      let e : rank R l.y ≡ rank R k.y = ap (rank R) (level c) in
      omega (arith, falls, sum_step c (λ p. rank R p.y))

steps-weight : {ps qs : List Point} {rs : List Rect} → Steps ps rs qs → (R : List ℤ) → Listed R ps → Listed R qs × (weight R qs + (length rs + length rs) ≤ weight R ps)
steps-weight stay R h = (h, omega arith)
steps-weight (more k l m acc c s) R h =
    let r = steps-weight s R (step-listed c R h) in
    let g = step-weight c R h in
    (r.0, omega (arith, r.1))

-- at first each point has at most r - 1 of the r rows above it
start-weight : (ps : List Point) (R : List ℤ) → Listed R ps → weight R ps ≤ length ps * (length R - 1)
unfolding weight rank
start-weight ps R h = sum-most (λ p. rank R p.y) (length R - 1) ps (λ q n. omega (arith, rank_falls R (λ z. true) q.y (h q n) (λ z e. refl) refl, count-length (λ z. true) R))

-- ---- The run ends

-- with steps enough for the weight no point is left
run_ends : (f : ℕ) (ps : List Point) (R : List ℤ) → Accepted ps → Listed R ps → weight R ps ≤ f + f → left_after step f ps ≡ []
run_ends f ps R acc h w = go (left_after step f ps) refl (spent f ps)
  where
    go : (qs : List Point) → left_after step f ps ≡ qs → (left_after step f ps ≡ []) ⊎ (length (run step f ps) ≡ f) → left_after step f ps ≡ []
    go qs e (inl d) = d
    go [] e (inr d) = e
    go (q ∷ qs) e (inr d) =
        let s : Steps ps (run step f ps) (q ∷ qs) = rw e at (steps f ps acc) in
        let t = steps-weight s R h in
        let g = step-weight (picks q qs (steps-accepted s acc)) R t.0 in
        absurd (omega (arith, t.1))

-- the run of an accepted array ends with no points left
pub rule-ends : (ps : List Point) → Accepted ps → left_after step (enough ps) ps ≡ []
rule-ends ps acc =
    let R : List ℤ = different (rows_of ps) in
    let few : length R - 1 ≤ length ps = omega (arith, length-map ps (λ p. p.y), different-few (rows_of ps)) in
    let square : length ps * (length R - 1) ≤ length ps * length ps = mul-le-mul_left (length ps) few in
    run_ends (enough ps) ps R acc (rows-listed ps) (omega (arith, start-weight ps R (rows-listed ps)))

-- so the list is the whole run: steps from the points to none
pub rule-steps : (ps : List Point) → Accepted ps → Steps ps (rule_list ps) []
unfolding rule_list
rule-steps ps acc = rw (rule-ends ps acc) at (steps (enough ps) ps acc)

-- ---- The list, step by step

-- no points make no rectangles
run_none : (n : ℕ) → run step n [] ≡ []
unfolding run
run_none zero = refl
run_none (suc n) = refl

-- two runs that leave no points make the same rectangles
run-same : (m n : ℕ) (ps : List Point) → left_after step m ps ≡ [] → left_after step n ps ≡ [] → run step m ps ≡ run step n ps
unfolding run left_after
run-same zero n ps e d = rw e (sym (run_none n))
run-same (suc m) zero ps e d = rw d
run-same (suc m) (suc n) [] e d = refl
run-same (suc m) (suc n) (p ∷ qs) e d = ap (λ (rs : List Rect). (step (p ∷ qs)).rect ∷ rs) (run-same m n (step (p ∷ qs)).left e d)

-- so their list is empty
pub rule-none : rule_list [] ≡ []
unfolding rule_list
rule-none = run_none (enough [])

-- the list is the rectangle of the first step, then the list of the points that it leaves
pub rule-next : (p : Point) (qs : List Point) → Accepted (p ∷ qs) → rule_list (p ∷ qs) ≡ (step (p ∷ qs)).rect ∷ rule_list (step (p ∷ qs)).left
unfolding rule_list run left_after
rule-next p qs acc =
    let left : List Point = (step (p ∷ qs)).left in
    run-same (enough (p ∷ qs)) (suc (enough left)) (p ∷ qs) (rule-ends (p ∷ qs) acc) (rule-ends left (step-keeps-accepted p qs acc))

-- so many steps make at most so many rectangles
run-most : (n : ℕ) (ps : List Point) → length (run step n ps) ≤ n
unfolding run
run-most zero ps = omega arith
run-most (suc n) [] = omega arith
run-most (suc n) (p ∷ qs) = let h = run-most n (step (p ∷ qs)).left in omega arith

-- the list has at most as many rectangles as the square of the number of points
pub rule-most : (ps : List Point) → length (rule_list ps) ≤ enough ps
unfolding rule_list
rule-most ps = run-most (enough ps) ps

-- ---- At most (n/2)(r - 1) rectangles, for n points on r different rows

-- even rows make an even number of points
pub even-length : (ps : List Point) → Accepted ps → (h : ℕ) × (length ps ≡ h + h)
unfolding is_odd
even-length ps acc = even-half (length ps) (sym (ap is_odd (sum-length ps)) ∙ sym (odd-sum (λ p. true) ps) ∙ even-by-rows (λ p. true) (λ y. true) ps (λ q n e. odd-cong (λ p. on_row q.y p && true) (on_row q.y) ps (λ p i. and-true (on_row q.y p)) ∙ acc.rows q.y))

pub rule-bound : (ps : List Point) → Accepted ps → length (rule_list ps) ≤ length ps / 2 * (row_count ps - 1)
unfolding row_count
rule-bound ps acc =
    let R : List ℤ = different (rows_of ps) in
    let w = (steps-weight (rule-steps ps acc) R (rows-listed ps)).1 in
    let s = start-weight ps R (rows-listed ps) in
    let e = even-length ps acc in
    halve (length (rule_list ps)) (length ps) (length R - 1) e.0 e.1 (omega arith)
  where
    halve : (s n c h : ℕ) → n ≡ h + h → s + s ≤ n * c → s ≤ n / 2 * c
    halve s n c h e b = let d : n / 2 ≡ h = omega arith in rw d (omega (arith, rw e at b))
