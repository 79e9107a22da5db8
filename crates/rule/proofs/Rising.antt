-- The list comes out in strictly rising order of (Y, X), and each rectangle is at least one cell wide and high, and in range.
use mathlib.Core.Path.{◌≡◌, refl, ap}
use Prim.Native.Nat.{ℕ, ◌≤◌}
use native.Mathlib.Omega.{arith}
use mathlib.Core.Bool.{true, false, not}
use mathlib.Core.List.Memᴰ.{head}
use mathlib.Core.List.Memᴰ.{tail}
use mathlib.Core.List.{List, map, Memᴰ as In}
use lib.IntN.{ℤ}
use borrow.Author.Tests.{not-true}
use Rattle.plane.specs.declared.Point.{Point}
use Rattle.plane.specs.declared.Rect.{Rect}
use Rattle.plane.specs.Lists.{bit, count}
use Rattle.plane.specs.Words.{same, before, rising_after, rising, lower_left, flat, rect_in_range}
use Rattle.plane.proofs.Bools.{by, and-make}
use Rattle.plane.proofs.Sums.{sum-in, count-sum, count-mono}
use Rattle.plane.proofs.Points.{after-no, after_both, before_self, before_above}
use Rattle.rule.specs.Rule.{rect_of, toggle_four, rule_list, Picked}
use Rattle.rule.specs.Rows.{Accepted, AcceptedRects}
use Rattle.rule.proofs.Picks.{after-k, higher}
use Rattle.rule.proofs.Steps.{sum_step, step-solid, step-in-range, Steps, stay, more}
use Rattle.rule.proofs.Bound.{rule-steps}

-- ---- The order

-- after a step every point comes after K
after-step : {ps : List Point} {k l : Point} {m : ℤ} → Accepted ps → Picked ps k l m → (q : Point) → In q (toggle_four ps k l m) → before k q ≡ true
after-step {ps} {k} {l} {m} acc c q n =
    let late : count (λ p. not (before k p)) ps ≤ count (same k) ps = count-mono (λ p. not (before k p)) (same k) ps (λ p o e. after_both k p (after-k c p o) (after-no k p (not-true (before k p) e))) in
    let one : w k ≡ 1 = rw (before_self k) in
    let km : w (record { x = k.x; y = m }) ≡ 0 = rw (before_above k (record { x = k.x; y = m }) (higher c)) in
    let lm : w (record { x = l.x; y = m }) ≡ 0 = rw (before_above k (record { x = l.x; y = m }) (higher c)) in
    by (before k q) (λ e. let o : w q ≡ 1 = ap (λ t. bit (not t)) e in omega (arith, late, acc.once k, count-sum (λ p. not (before k p)) ps, sum_step c w, sum-in w n))
  where
    w : Point → ℕ
    w p = bit (not (before k p))

rising-from : {ps qs : List Point} {rs : List Rect} (k : Point) → Steps ps rs qs → ((q : Point) → In q ps → before k q ≡ true) → rising_after k (map lower_left rs) ≡ true
unfolding rising_after rect_of
rising-from k stay h = refl
rising-from k (more {rs = rs} p l m acc c s) h = and-make (before k p) (rising_after p (map lower_left rs)) (h p c.first-k.within) (rising-from p s (after-step acc c))

steps-rising : {ps qs : List Point} {rs : List Rect} → Steps ps rs qs → rising (map lower_left rs) ≡ true
unfolding rising rect_of
steps-rising stay = refl
steps-rising (more k l m acc c s) = rising-from k s (after-step acc c)

-- the list is in strictly rising order of (Y, X)
pub rule-rising : (ps : List Point) → Accepted ps → rising (map lower_left (rule_list ps)) ≡ true
rule-rising ps acc = steps-rising (rule-steps ps acc)

-- ---- The rectangles

steps-rects : {ps qs : List Point} {rs : List Rect} → Steps ps rs qs → (r : Rect) → In r rs → (flat r ≡ false) × (rect_in_range r ≡ true)
steps-rects stay r m = elim m [ ]
steps-rects (more k l m acc c s) r (head e) = rw e (step-solid c, step-in-range c acc)
steps-rects (more k l m acc c s) r (tail n) = steps-rects s r n

-- W and H are at least 1, and X, Y, X + W, Y + H are in range: rectangles that backward accepts
pub rule-rects : (ps : List Point) → Accepted ps → AcceptedRects (rule_list ps)
rule-rects ps acc = record { solid = λ r n. (steps-rects (rule-steps ps acc) r n).0; range = λ r n. (steps-rects (rule-steps ps acc) r n).1 }
