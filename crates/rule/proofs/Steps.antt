-- One step of the rule at an accepted list, and a run of steps without a bound on their number.
use mathlib.Core.Path.{◌≡◌, refl, ap, ◌∙◌}
use Prim.Native.Nat.{ℕ, zero, suc, ◌+◌, ◌≤◌, ◌<◌}
use native.Mathlib.Omega.{arith}
use mathlib.Core.Bool.{Bool, true, false, not, xor}
use mathlib.Core.Logic.{◌⊎◌, inl, inr}
use mathlib.Core.List.{List, [], ◌∷◌, Memᴰ as In}
use lib.ListN.{length}
use lib.IntN.{ℤ, pos, ◌-ℤ◌}
use lib.Signed.{mag, lt_z}
use Rattle.plane.specs.declared.Point.{Point}
use Rattle.plane.specs.declared.Rect.{Rect}
use Rattle.plane.specs.Lists.{bit, count, sum}
use Rattle.plane.specs.Words.{eq_z, same, on_row, in_column, in_range, point_in_range, rect_in_range, flat}
use Rattle.plane.proofs.Order.{order, add-up, far-side, pos-up, apart-most}
use Rattle.plane.proofs.Bools.{by, and_parts, and-make, xor-back, xor-left-comm}
use Rattle.plane.proofs.Sums.{sum-in, sum-zero, count-in}
use Rattle.plane.proofs.Points.{same_refl}
use Rattle.rule.specs.Rule.{pick_k, pick_l, pick_m, rect_of, toggle, toggle_four, take_rect, step, run, left_after, Picked}
use Rattle.rule.specs.Rows.{Accepted}
use Rattle.rule.proofs.Toggle.{odd-four, once-four, sum-four, four-lengths}
use Rattle.rule.proofs.Picks.{level, l-right_of, higher, apart, picks}

-- ---- One step

module _ {ps : List Point} {k l : Point} {m : ℤ} (c : Picked ps k l m) where
  k-there : 1 ≤ count (same k) ps
  k-there = count-in (same k) c.first-k.within (same_refl k)

  l-there : 1 ≤ count (same l) ps
  l-there = count-in (same l) c.first-l.within (same_refl l)

  -- K and L go, (xK, M) and (xL, M) may come: for every weight
  pub sum_step : (w : Point → ℕ) → sum w (toggle_four ps k l m) + (w k + w l) ≤ sum w ps + (w (record { x = k.x; y = m }) + w (record { x = l.x; y = m }))
  sum_step = sum-four ps k l m k-there l-there (apart c)

  -- after none of the toggles of K, L and two more points are the points more than before
  pub step-lengths : (p q : Point) → (length (toggle ps k) ≤ length ps) × (length (toggle (toggle ps k) l) ≤ length ps) × (length (toggle (toggle (toggle ps k) l) p) ≤ length ps) × (length (toggle (toggle (toggle (toggle ps k) l) p) q) ≤ length ps)
  step-lengths p q = four-lengths ps k l p q k-there l-there (apart c)

  -- the number of points never grows
  step-no-growth : length (toggle_four ps k l m) ≤ length ps
  unfolding toggle_four
  step-no-growth = (step-lengths (record { x = k.x; y = m }) (record { x = l.x; y = m })).3

  -- a test that every point passes, and (xK, M) and (xL, M) do, every point left passes
  pub step-all : (f : Point → Bool) → ((q : Point) → In q ps → f q ≡ true) → f (record { x = k.x; y = m }) ≡ true → f (record { x = l.x; y = m }) ≡ true → (q : Point) → In q (toggle_four ps k l m) → f q ≡ true
  step-all f h km lm q n =
      let a : bit (not (f (record { x = k.x; y = m }))) ≡ 0 = ap (λ t. bit (not t)) km in
      let b : bit (not (f (record { x = l.x; y = m }))) ≡ 0 = ap (λ t. bit (not t)) lm in
      let z = sum-zero (λ p. bit (not (f p))) ps (λ p i. ap (λ t. bit (not t)) (h p i)) in
      by (f q) (λ e. let o : bit (not (f q)) ≡ 1 = ap (λ t. bit (not t)) e in omega (arith, sum_step (λ p. bit (not (f p))), sum-in (λ p. bit (not (f p))) n))

  -- each side is at least 1
  pub step-solid : flat (rect_of k l m) ≡ false
  unfolding flat rect_of
  step-solid = rw (positive k.x l.x (l-right_of c), positive k.y m (higher c))
    where
      positive : (a b : ℤ) → lt_z a b ≡ true → lt_z (b -ℤ a) (pos 1) ≡ false
      positive a b h = omega (order, add-up a (b -ℤ a), far-side a b, pos-up 1)

  module _ (acc : Accepted ps) where
    range-k : (in_range k.x ≡ true) × (in_range k.y ≡ true)
    unfolding point_in_range
    range-k = and_parts (in_range k.x) (in_range k.y) (acc.range k c.first-k.within)

    range-l : (in_range l.x ≡ true) × (in_range l.y ≡ true)
    unfolding point_in_range
    range-l = and_parts (in_range l.x) (in_range l.y) (acc.range l c.first-l.within)

    range-m : in_range m ≡ true
    unfolding point_in_range
    range-m = rw c.row-m at (and_parts (in_range c.on-m.x) (in_range c.on-m.y) (acc.range c.on-m c.first-m.within)).1

    -- X, Y, X + W and Y + H are coordinates of the points, so they are in range
    pub step-in-range : rect_in_range (rect_of k l m) ≡ true
    unfolding rect_in_range rect_of
    step-in-range = rw (far-side k.x l.x, far-side k.y m, range-k.0, range-k.1, range-l.0, range-m)

    -- W and H are at most 2·10^9
    pub step-sides : (mag (l.x -ℤ k.x) ≤ 2_000_000_000) × (mag (m -ℤ k.y) ≤ 2_000_000_000)
    step-sides = (apart-most k.x l.x range-k.0 range-l.0, apart-most k.y m range-k.1 range-m)

    -- a step keeps rows and columns even, points distinct and all in range
    pub four-accepted : Accepted (toggle_four ps k l m)
    unfolding on_row in_column point_in_range
    four-accepted = record {
      range = step-all point_in_range acc.range (and-make _ _ range-k.0 range-m) (and-make _ _ range-l.0 range-m);
      once = once-four ps k l m acc.once;
      rows = λ y. odd-four (on_row y) ps k l m ∙ xor-back (eq_z m y) _ ∙ rw (level c) (xor-back (eq_z k.y y) _) ∙ acc.rows y;
      columns = λ x. odd-four (in_column x) ps k l m ∙ pairs (eq_z k.x x) (eq_z l.x x) _ ∙ acc.columns x;
    }
      where
        pairs : (a b r : Bool) → xor b (xor a (xor b (xor a r))) ≡ r
        pairs a b r = rw (xor-left-comm a b (xor a r)) (xor-back b _ ∙ xor-back a r)

-- ---- The step of an accepted array that is not empty

module _ (p : Point) (qs : List Point) (acc : Accepted (p ∷ qs)) where
  -- every step keeps rows and columns even, points distinct and all in range
  pub step-keeps-accepted : Accepted (step (p ∷ qs)).left
  unfolding step take_rect
  step-keeps-accepted = four-accepted (picks p qs acc) acc

  -- the number of points never grows
  pub step-never-grows : length (step (p ∷ qs)).left ≤ length (p ∷ qs)
  unfolding step take_rect
  step-never-grows = step-no-growth (picks p qs acc)

  -- the rectangle is one that backward accepts: W and H at least 1, all in range
  pub step-rect : (flat (step (p ∷ qs)).rect ≡ false) × (rect_in_range (step (p ∷ qs)).rect ≡ true)
  unfolding step take_rect
  step-rect = let c = picks p qs acc in (step-solid c, step-in-range c acc)

-- of accepted points, one or more, a step leaves accepted points, and no more of them
pub accepted-step : (ps : List Point) → 0 < length ps → Accepted ps → Accepted (step ps).left × (length (step ps).left ≤ length ps)
accepted-step [] h acc = absurd (omega arith)
accepted-step (p ∷ qs) h acc = (step-keeps-accepted p qs acc, step-never-grows p qs acc)

-- ---- The steps as a relation: from the points, the rectangles made and the points left

pub data Steps : List Point → List Rect → List Point → Type 0 where
  stay : {ps : List Point} → Steps ps [] ps
  more : {ps qs : List Point} {rs : List Rect} (k l : Point) (m : ℤ) → Accepted ps → Picked ps k l m → Steps (toggle_four ps k l m) rs qs → Steps ps (rect_of k l m ∷ rs) qs

-- the rule's run is such a run of steps
pub steps : (n : ℕ) (ps : List Point) → Accepted ps → Steps ps (run step n ps) (left_after step n ps)
unfolding run left_after step take_rect
steps zero ps acc = stay
steps (suc n) [] acc = stay
steps (suc n) (p ∷ qs) acc =
    let ps : List Point = p ∷ qs in
    let k : Point = pick_k ps in
    let l : Point = pick_l k ps in
    let m : ℤ = pick_m k l ps in
    let c = picks p qs acc in
    more k l m acc c (steps n (toggle_four ps k l m) (four-accepted c acc))

-- they keep the points accepted
pub steps-accepted : {ps qs : List Point} {rs : List Rect} → Steps ps rs qs → Accepted ps → Accepted qs
steps-accepted stay acc = acc
steps-accepted (more k l m _ c s) acc = steps-accepted s (four-accepted c acc)

-- fuel that is not used up leaves no points
pub spent : (n : ℕ) (ps : List Point) → (left_after step n ps ≡ []) ⊎ (length (run step n ps) ≡ n)
unfolding run left_after
spent zero ps = inr refl
spent (suc n) [] = inl refl
spent (suc n) (p ∷ qs) = go (spent n (step (p ∷ qs)).left)
  where
    go : (left_after step n (step (p ∷ qs)).left ≡ []) ⊎ (length (run step n (step (p ∷ qs)).left) ≡ n) → (left_after step n (step (p ∷ qs)).left ≡ []) ⊎ (suc (length (run step n (step (p ∷ qs)).left)) ≡ suc n)
    go (inl e) = inl e
    go (inr e) = inr (ap suc e)
