-- What a toggle, and the four toggles of a step, do to every sum, count and parity over the points.
use mathlib.Core.Path.{◌≡◌, refl, sym, ap, ◌∙◌, subst}
use Prim.Native.Nat.{ℕ, zero, suc, ◌+◌, ◌≤◌, ◌<◌}
use native.Mathlib.Omega.{arith}
use mathlib.Core.Bool.{Bool, true, false, cond, xor}
use mathlib.Core.List.{List, [], ◌∷◌}
use mathlib.Core.Option
use mathlib.Core.Option.{Option, none, some}
use lib.ListN.{length, get_or}
use lib.IntN.{ℤ}
use Rattle.plane.specs.declared.Point.{Point}
use Rattle.plane.specs.Lists.{bit, count, odd, sum}
use Rattle.plane.specs.Words.{origin, same, point_at}
use Rattle.plane.proofs.Bools.{is_odd, is_odd-bit, xor-back}
use Rattle.plane.proofs.Sums.{sum-last-added, sum-remove, sum-length, count-sum}
use Rattle.plane.proofs.Parity.{odd-sum}
use Rattle.plane.proofs.Points.{same-is}
use Rattle.entry.specs.Checks.{first_from, first_bad}
use Rattle.rule.specs.Rule.{further, place_of, remove, add, toggle_at, toggle, toggle_four}

-- ---- Where a point stands

-- a place found holds the point; where none is found, the point is absent
data Placed (p : Point) (ps : List Point) : Option ℕ → Type 0 where
  absent : count (same p) ps ≡ 0 → Placed p ps none
  stands : {i : ℕ} → i < length ps → get_or ps i origin ≡ p → Placed p ps (some i)

placed : (p : Point) (ps : List Point) → Placed p ps (place_of p ps)
unfolding place_of count
placed p [] = absent refl
placed p (q ∷ qs) = go (same p q) refl (place_of p qs) (placed p qs)
  where
    go : (b : Bool) → same p q ≡ b → (o : Option ℕ) → Placed p qs o → Placed p (q ∷ qs) (further b o)
    go true e o r = stands {i = 0} (omega arith) (sym (same-is p q e))
    go false e none (absent z) = absent (rw (e, z))
    go false e (some i) (stands h g) = stands {i = suc i} (omega arith) g

-- a search that starts one further finds one further
first-suc : (t : ℕ → Bool) (i n : ℕ) → first_from (suc i) n t ≡ suc (first_from i n (λ j. t (suc j)))
unfolding first_from
first-suc t i zero = refl
first-suc t i (suc n) = go (t (suc i)) (first-suc t (suc i) n)
  where
    go : (b : Bool) {m n : ℕ} → m ≡ suc n → cond b (suc i) m ≡ suc (cond b i n)
    go true e = refl
    go false e = e

-- the place of a point is the first place that holds it
pub place-first : (p : Point) (ps : List Point) → Option.get_or (place_of p ps) (length ps) ≡ first_bad (length ps) (λ i. same p (point_at ps i))
unfolding place_of first_from
place-first p [] = refl
place-first p (q ∷ qs) = go (same p q) (place_of p qs) (place-first p qs) ∙ ap (cond (same p q) 0) (sym (first-suc (λ i. same p (point_at (q ∷ qs) i)) 0 (length qs)))
  where
    go : (b : Bool) (o : Option ℕ) {m : ℕ} → Option.get_or o (length qs) ≡ m → Option.get_or (further b o) (suc (length qs)) ≡ cond b 0 (suc m)
    go true o e = refl
    go false none e = ap suc e
    go false (some i) e = ap suc e

-- ---- One toggle

-- a point with a place in the list is removed there, and one without is added
pub toggle-at : (ps : List Point) (p : Point) → let i = Option.get_or (place_of p ps) (length ps) in (i < length ps → toggle ps p ≡ remove ps i) × (length ps ≤ i → toggle ps p ≡ add ps p)
unfolding toggle
toggle-at ps p = go (place_of p ps) (placed p ps)
  where
    go : (o : Option ℕ) → Placed p ps o → let i = Option.get_or o (length ps) in (i < length ps → toggle_at o ps p ≡ remove ps i) × (length ps ≤ i → toggle_at o ps p ≡ add ps p)
    go none (absent z) = (λ h. absurd (omega arith), λ h. refl)
    go (some i) (stands h g) = (λ k. refl, λ k. absurd (omega arith))

-- a toggle adds an absent point or takes a present one away
data Toggled (ps : List Point) (p : Point) (qs : List Point) : Type 0 where
  added : count (same p) ps ≡ 0 → ((w : Point → ℕ) → sum w qs ≡ sum w ps + w p) → Toggled ps p qs
  taken : ((w : Point → ℕ) → sum w qs + w p ≡ sum w ps) → Toggled ps p qs

toggled : (ps : List Point) (p : Point) → Toggled ps p (toggle ps p)
unfolding toggle remove add
toggled ps p = go (place_of p ps) (placed p ps)
  where
    go : (o : Option ℕ) → Placed p ps o → Toggled ps p (toggle_at o ps p)
    go none (absent z) = added z (λ w. sum-last-added w ps p)
    go (some i) (stands h g) = taken (λ w. subst (λ q. sum w (remove ps i) + w q ≡ sum w ps) g (sum-remove w ps i origin h))

-- a present point is taken away
pub toggle-taken : (ps : List Point) (p : Point) → 1 ≤ count (same p) ps → (w : Point → ℕ) → sum w (toggle ps p) + w p ≡ sum w ps
toggle-taken ps p h w = go (toggled ps p)
  where
    go : {qs : List Point} → Toggled ps p qs → sum w qs + w p ≡ sum w ps
    go (added z k) = absurd (omega arith)
    go (taken k) = k w

-- at most the point is added
toggle-most : (ps : List Point) (p : Point) (w : Point → ℕ) → sum w (toggle ps p) ≤ sum w ps + w p
toggle-most ps p w = go (toggled ps p)
  where
    go : {qs : List Point} → Toggled ps p qs → sum w qs ≤ sum w ps + w p
    go (added z k) = omega (arith, k w)
    go (taken k) = omega (arith, k w)

-- at most one point more, and one less where the point is present
pub toggle-length : (ps : List Point) (p : Point) → (length (toggle ps p) ≤ length ps + 1) × (1 ≤ count (same p) ps → length (toggle ps p) + 1 ≡ length ps)
toggle-length ps p =
    let one : Point → ℕ = λ q. 1 in
    let a = sum-length ps in
    let b = sum-length (toggle ps p) in
    (omega (arith, toggle-most ps p one), λ h. omega (arith, toggle-taken ps p h one))

-- the parity of every test changes exactly where the point passes it
pub odd-toggle : (f : Point → Bool) (ps : List Point) (p : Point) → odd f (toggle ps p) ≡ xor (f p) (odd f ps)
odd-toggle f ps p = go (toggled ps p)
  where
    w : Point → ℕ
    w q = bit (f q)

    more : (m n : ℕ) → n ≡ m + bit (f p) → is_odd n ≡ xor (f p) (is_odd m)
    more m n e = rw (let k : n ≡ bit (f p) + m = omega arith in k) (is_odd-bit (f p) m)

    go : {qs : List Point} → Toggled ps p qs → odd f qs ≡ xor (f p) (odd f ps)
    go {qs} (added z h) = rw (odd-sum f qs, odd-sum f ps) (more _ _ (h w))
    go {qs} (taken h) = rw (odd-sum f qs, odd-sum f ps) (sym (ap (xor (f p)) (more _ _ (sym (h w))) ∙ xor-back (f p) _))

-- no point comes to stand twice
pub once-toggle : (ps : List Point) (p : Point) → ((q : Point) → count (same q) ps ≤ 1) → (q : Point) → count (same q) (toggle ps p) ≤ 1
once-toggle ps p h q = go (toggled ps p) (same q p) refl
  where
    w : Point → ℕ
    w r = bit (same q r)

    go : {rs : List Point} → Toggled ps p rs → (b : Bool) → same q p ≡ b → count (same q) rs ≤ 1
    go {rs} (added z k) true e =
        let none-there : sum w ps ≡ 0 = sym (count-sum (same q) ps) ∙ subst (λ (r : Point). count (same r) ps ≡ 0) (sym (same-is q p e)) z in
        let one : w p ≡ 1 = ap bit e in
        omega (arith, k w, count-sum (same q) rs)
    go {rs} (added z k) false e = let one : w p ≡ 0 = ap bit e in omega (arith, k w, count-sum (same q) rs, count-sum (same q) ps, h q)
    go {rs} (taken k) b e = omega (arith, k w, count-sum (same q) rs, count-sum (same q) ps, h q)

-- ---- The four toggles of a step

pub odd-four : (f : Point → Bool) (ps : List Point) (k l : Point) (m : ℤ) → odd f (toggle_four ps k l m) ≡ xor (f (record { x = l.x; y = m })) (xor (f (record { x = k.x; y = m })) (xor (f l) (xor (f k) (odd f ps))))
unfolding toggle_four
odd-four f ps k l m = odd-toggle f _ _ ∙ ap (xor _) (odd-toggle f _ _ ∙ ap (xor _) (odd-toggle f _ l ∙ ap (xor (f l)) (odd-toggle f ps k)))

pub once-four : (ps : List Point) (k l : Point) (m : ℤ) → ((q : Point) → count (same q) ps ≤ 1) → (q : Point) → count (same q) (toggle_four ps k l m) ≤ 1
unfolding toggle_four
once-four ps k l m h = once-toggle _ _ (once-toggle _ _ (once-toggle _ _ (once-toggle ps k h)))

-- another point that is present stays present when one is toggled
still-there : (ps : List Point) (k l : Point) → 1 ≤ count (same k) ps → 1 ≤ count (same l) ps → same l k ≡ false → 1 ≤ count (same l) (toggle ps k)
still-there ps k l k-in l-in d =
    let apart : bit (same l k) ≡ 0 = ap bit d in
    omega (arith, count-sum (same l) ps, count-sum (same l) (toggle ps k), toggle-taken ps k k-in (λ q. bit (same l q)))

-- where K and L are two points of the list: they go, and (xK, M) and (xL, M) may come
pub sum-four : (ps : List Point) (k l : Point) (m : ℤ) → 1 ≤ count (same k) ps → 1 ≤ count (same l) ps → same l k ≡ false → (w : Point → ℕ) → sum w (toggle_four ps k l m) + (w k + w l) ≤ sum w ps + (w (record { x = k.x; y = m }) + w (record { x = l.x; y = m }))
unfolding toggle_four
sum-four ps k l m k-in l-in d w =
    let km : Point = record { x = k.x; y = m } in
    let lm : Point = record { x = l.x; y = m } in
    omega (arith, toggle-taken ps k k-in w, toggle-taken (toggle ps k) l (still-there ps k l k-in l-in d) w, toggle-most (toggle (toggle ps k) l) km w, toggle-most (toggle (toggle (toggle ps k) l) km) lm w)

-- where K and L are two points of the list: after none of the toggles of K, L and two more points are they more than before
pub four-lengths :
    (ps : List Point) (k l p q : Point) → 1 ≤ count (same k) ps → 1 ≤ count (same l) ps → same l k ≡ false →
    let qs = toggle (toggle ps k) l in
    (length (toggle ps k) ≤ length ps) × (length qs ≤ length ps) × (length (toggle qs p) ≤ length ps) × (length (toggle (toggle qs p) q) ≤ length ps)
four-lengths ps k l p q k-in l-in d =
    let ps₁ : List Point = toggle ps k in
    let ps₂ : List Point = toggle ps₁ l in
    omega (arith, (toggle-length ps k).1 k-in, (toggle-length ps₁ l).1 (still-there ps k l k-in l-in d), (toggle-length ps₂ p).0, (toggle-length (toggle ps₂ p) q).0)
