-- Laws of points: when two are the same, and the order of y, then x.
use mathlib.Core.Path.{◌≡◌, refl, sym, ap, ◌∙◌}
use Prim.Native.Nat.{◌+◌, ◌≤◌}
use native.Mathlib.Omega.{arith}
use mathlib.Core.Bool.{Bool, true, false, not, ◌&&◌, ◌||◌, xor, true≢false, false≢true, or-true, and-true, and-false}
use mathlib.Core.List.Memᴰ
use mathlib.Core.List.{List, ◌∷◌, Memᴰ as In}
use lib.IntN.{ℤ}
use lib.Signed.{le_z, lt_z}
use Rattle.plane.specs.declared.Point.{Point}
use Rattle.plane.specs.Lists.{bit, any, count, odd, sum}
use Rattle.plane.specs.Words.{eq_z, same, before}
use Rattle.plane.proofs.Order.{order, eq_z-is, eq_z-refl}
use Rattle.plane.proofs.Bools.{clash, by, by-no, iff, and_parts, and-make, xor-back}
use Rattle.plane.proofs.Sums.{any-find, count-sum, count-in}
use Rattle.plane.proofs.Parity.{odd-cong, odd-none, odd-split, odd-one}

-- ---- The same point

-- points that pass the test are equal
pub same-is : (p q : Point) → same p q ≡ true → p ≡ q
unfolding same
same-is p q e =
    let h = and_parts (eq_z p.x q.x) (eq_z p.y q.y) e in
    λ i. record { x = eq_z-is p.x q.x h.0 i; y = eq_z-is p.y q.y h.1 i }

-- a point passes it with itself
pub same_refl : (p : Point) → same p p ≡ true
unfolding same
same_refl p = and-make _ _ (eq_z-refl p.x) (eq_z-refl p.y)

-- two points are the same either way round
pub same-swap : (p q : Point) → same p q ≡ same q p
same-swap p q = iff (same p q) (same q p) (λ e. rw (same-is p q e) (same_refl q)) (λ e. rw (same-is q p e) (same_refl p))

-- a list that has a point the same as p has p
pub same_in : (p : Point) (ps : List Point) → any (same p) ps ≡ true → In p ps
same_in p ps e = let r = any-find (same p) ps e in Memᴰ.cast (same-is p r.0 r.2) r.1

-- without a point that stands once, the parity of a test changes just where that point passes
pub odd-without : (f : Point → Bool) {k : Point} {ps : List Point} → In k ps → count (same k) ps ≤ 1 → xor (f k) (odd f ps) ≡ odd (λ q. not (same k q) && f q) ps
odd-without f {k} {ps} n o = ap (xor (f k)) (odd-split (same k) f ps ∙ ap (λ b. xor b (odd (λ q. not (same k q) && f q) ps)) alone) ∙ xor-back (f k) _
  where
    at-k : (q : Point) (b : Bool) → same k q ≡ b → (b && f q) ≡ (b && f k)
    at-k q true d = rw (same-is k q d)
    at-k q false d = refl

    either : (b : Bool) → odd (λ q. same k q && b) ps ≡ b
    either true = odd-cong _ (same k) ps (λ q i. and-true (same k q)) ∙ odd-one (same k) n (same_refl k) o
    either false = odd-none _ ps (λ q i. and-false (same k q))

    alone : odd (λ q. same k q && f q) ps ≡ f k
    alone = odd-cong _ (λ q. same k q && f k) ps (λ q i. at-k q (same k q) refl) ∙ either (f k)

-- ---- Points of which none stands twice

module _ (p : Point) (ps : List Point) (once : (q : Point) → count (same q) (p ∷ ps) ≤ 1) where
  -- how often a point stands: as the first, and among the others
  counts : (q : Point) → count (same q) (p ∷ ps) ≡ bit (same q p) + count (same q) ps
  unfolding sum
  counts q = omega (arith, count-sum (same q) (p ∷ ps), count-sum (same q) ps)

  -- the others stand once
  pub once-rest : (q : Point) → count (same q) ps ≤ 1
  once-rest q = omega (arith, once q, counts q)

  -- and are not the first
  pub once-apart : {q : Point} → In q ps → same q p ≡ false
  once-apart {q} m = by-no (same q p) (λ e. omega (arith, once q, counts q, ap bit e, count-in (same q) m (same_refl q)))

-- ---- The order: q is k or comes after it

pub data After (q k : Point) : Type 0 where
  above : lt_z k.y q.y ≡ true → After q k
  along : q.y ≡ k.y → le_z k.x q.x ≡ true → After q k

-- every point is at or after itself
pub after-refl : (q : Point) → After q q
after-refl q = along refl (omega order)

-- what is at or after a second point is so of a third that the second is at or after
pub after-trans : {q r k : Point} → After q r → After r k → After q k
after-trans (above h) (above g) = above (omega order)
after-trans (above h) (along e g) = above (omega order)
after-trans (along e h) (above g) = above (omega order)
after-trans (along e h) (along d g) = along (omega order) (omega order)

-- what is at or after k is not below its row
pub after-row : {q k : Point} → After q k → le_z k.y q.y ≡ true
after-row (above h) = omega order
after-row (along e h) = omega order

-- a point that is not before another is it or comes after it
pub after-no : (q k : Point) → before q k ≡ false → After q k
unfolding before
after-no q k = go (lt_z q.y k.y) refl (eq_z q.y k.y) refl
  where
    go : (b : Bool) → lt_z q.y k.y ≡ b → (c : Bool) → eq_z q.y k.y ≡ c → (b || (c && lt_z q.x k.x)) ≡ false → After q k
    go true h c g e = absurd (true≢false e)
    go false h true g e = along (omega order) (omega order)
    go false h false g e = above (omega order)

-- a point that another is before comes after that
pub after-yes : (q k : Point) → before q k ≡ true → After k q
unfolding before
after-yes q k = go (lt_z q.y k.y) refl (eq_z q.y k.y) refl
  where
    go : (b : Bool) → lt_z q.y k.y ≡ b → (c : Bool) → eq_z q.y k.y ≡ c → (b || (c && lt_z q.x k.x)) ≡ true → After k q
    go true h c g e = above h
    go false h true g e = along (omega order) (omega order)
    go false h false g e = absurd (false≢true e)

-- two points each at or after the other are the same
pub after_both : (k q : Point) → After q k → After k q → same k q ≡ true
unfolding same
after_both k q (above h) (above g) = absurd (omega order)
after_both k q (above h) (along e g) = absurd (omega order)
after_both k q (along e h) (above g) = absurd (omega order)
after_both k q (along e h) (along d g) = and-make (eq_z k.x q.x) (eq_z k.y q.y) (omega order) (omega order)

-- no point comes before itself
pub before_self : (k : Point) → before k k ≡ false
unfolding before
before_self k =
    let a : lt_z k.y k.y ≡ false = omega order in
    let b : lt_z k.x k.x ≡ false = omega order in
    rw (a, eq_z-refl k.y, b)

-- a point of a lower row comes before
pub before_above : (k q : Point) → lt_z k.y q.y ≡ true → before k q ≡ true
unfolding before
before_above k q h = rw h

-- a point further left on a row comes before
pub before-along : (x x' y : ℤ) → lt_z x x' ≡ true → before (record { x = x; y = y }) (record { x = x'; y = y }) ≡ true
unfolding before
before-along x x' y h = rw (eq_z-refl y, h) (or-true (lt_z y y))

-- a point of a row comes before every point not below the row that, on it, is further right
pub before-all : (x y : ℤ) (q : Point) → le_z y q.y ≡ true → (q.y ≡ y → lt_z x q.x ≡ true) → before (record { x = x; y = y }) q ≡ true
before-all x y q h f = by (before (record { x = x; y = y }) q) (λ n. go (after-no (record { x = x; y = y }) q n))
  where
    go : After (record { x = x; y = y }) q → ⊥
    go (above l) = omega order
    go (along e l) = let r = f (sym e) in omega order

-- a point that comes before another is not the same
pub before-apart : (p q : Point) → before p q ≡ true → (same p q ≡ false) × (same q p ≡ false)
before-apart p q b = (by-no (same p q) (λ e. clash (rw (same-is p q e) at b) (before_self q)), by-no (same q p) (λ e. clash (rw (same-is q p e) at b) (before_self p)))

-- of two points that are not the same, one comes before the other
pub before-connected : (p q : Point) → before p q ≡ false → same p q ≡ false → before q p ≡ true
before-connected p q e d = by (before q p) (λ f. clash (after_both p q (after-no q p f) (after-no p q e)) d)

-- a point does not come before one that it is at or after
pub before-after : (k q : Point) → before k q ≡ true → After k q → ⊥
before-after k q e a = clash (rw (same-is k q (after_both k q (after-yes k q e) a)) at e) (before_self q)

-- the order is transitive
pub before-trans : (p q r : Point) → before p q ≡ true → before q r ≡ true → before p r ≡ true
before-trans p q r e d = by (before p r) (λ f. before-after p q e (after-trans (after-no p r f) (after-yes q r d)))
