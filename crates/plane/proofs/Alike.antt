-- Lists of points with the same parity of every test. For lists without repeats that is the same set of points; and
-- it is what the marked cells tell: points that mark the same cells are alike.
use mathlib.Core.Path.{◌≡◌, refl, sym, ap₂, ◌∙◌, subst}
use Prim.Native.Nat.{◌≤◌}
use mathlib.Core.Bool.{Bool, true, false, ◌&&◌, xor, and-true, and-false}
use mathlib.Core.List.Memᴰ.{head}
use mathlib.Core.List.{List, [], ◌∷◌, ◌++◌, Memᴰ as In}
use lib.IntN.{ℤ, pred_ℤ}
use lib.Signed.{le_z}
use Rattle.plane.specs.declared.Point.{Point}
use Rattle.plane.specs.Lists.{odd, count}
use Rattle.plane.specs.Words.{eq_z, same, under, marks}
use Rattle.plane.proofs.Order.{order, pred-up}
use Rattle.plane.proofs.Bools.{clash, xor_same, xor_self}
use Rattle.plane.proofs.Parity.{odd-find, odd-none, odd-one, odd-append, odd-xor, odd-cong, classes-even}
use Rattle.plane.proofs.Points.{same-is, same_refl}

-- of both lists every test passes the same parity of points
pub record Alike (ps qs : List Point) : Type 0 where
  pub parity : (f : Point → Bool) → odd f ps ≡ odd f qs

-- alike either way round
pub alike-sym : {ps qs : List Point} → Alike ps qs → Alike qs ps
alike-sym h = record { parity = λ f. sym (h.parity f) }

-- a point of a list without repeats is a point of each list alike
pub alike-in : {ps qs : List Point} → ((q : Point) → count (same q) ps ≤ 1) → Alike ps qs → (q : Point) → In q ps → In q qs
alike-in {ps} {qs} once alike q n = let r = odd-find (same q) qs (sym (alike.parity (same q)) ∙ odd-one (same q) n (same_refl q) (once q)) in subst (λ p. In p qs) (sym (same-is q r.0 r.2)) r.1

-- points without repeats of which every test passes an even number are none
pub even-none : (ps : List Point) → ((q : Point) → count (same q) ps ≤ 1) → ((f : Point → Bool) → odd f ps ≡ false) → ps ≡ []
even-none [] once even = refl
even-none (p ∷ ps) once even = clash (odd-one (same p) (head refl) (same_refl p) (once p)) (even (same p))

-- lists with the same parity of each point have the same parity of every test
pub points-alike : (ps qs : List Point) → ((q : Point) → odd (same q) ps ≡ odd (same q) qs) → Alike ps qs
points-alike ps qs h = record { parity = λ f. xor_same _ _ (sym (odd-append f ps qs) ∙ classes-even (λ p. p) (λ u v. same v u) (λ u v e. sym (same-is v u e)) same_refl f (λ p. true) (ps ++ qs) (λ q n e. one f q (f q) refl)) }
  where
    none : (q : Point) → odd (same q) (ps ++ qs) ≡ false
    none q = odd-append (same q) ps qs ∙ rw (h q) (xor_self (odd (same q) qs))

    fixed : (f : Point → Bool) (q p : Point) (b c : Bool) → f q ≡ b → same q p ≡ c → (c && f p) ≡ (c && b)
    fixed f q p b true d e = rw (← same-is q p e) d
    fixed f q p b false d e = refl

    one : (f : Point → Bool) (q : Point) (b : Bool) → f q ≡ b → odd (λ p. same q p && f p) (ps ++ qs) ≡ false
    one f q true d = odd-cong (λ p. same q p && f p) (same q) (ps ++ qs) (λ p n. fixed f q p true (same q p) d refl ∙ and-true (same q p)) ∙ none q
    one f q false d = odd-none (λ p. same q p && f p) (ps ++ qs) (λ p n. fixed f q p false (same q p) d refl ∙ and-false (same q p))

-- ---- The marked cells tell the points

-- a number is b if it is at most b, and not at most the number before b
eq-xor : (a b : ℤ) → eq_z b a ≡ xor (le_z a b) (le_z a (pred_ℤ b))
unfolding xor
eq-xor a b = go (le_z a b) refl (le_z a (pred_ℤ b)) refl
  where
    go : (s : Bool) → le_z a b ≡ s → (t : Bool) → le_z a (pred_ℤ b) ≡ t → eq_z b a ≡ xor s t
    go true d true e = omega (order, pred-up b)
    go true d false e = omega (order, pred-up b)
    go false d true e = absurd (omega (order, pred-up b))
    go false d false e = omega order

-- a conjunction of exclusive ors, multiplied out
xor-and : (a b c d : Bool) → (xor a b && xor c d) ≡ xor (xor (a && c) (b && c)) (xor (a && d) (b && d))
unfolding xor
xor-and true true true true = refl
xor-and true true true false = refl
xor-and true true false true = refl
xor-and true true false false = refl
xor-and true false true true = refl
xor-and true false true false = refl
xor-and true false false true = refl
xor-and true false false false = refl
xor-and false true true true = refl
xor-and false true true false = refl
xor-and false true false true = refl
xor-and false true false false = refl
xor-and false false true d = refl
xor-and false false false d = refl

-- a point is q if it is under q's own cell, and neither under the cell to the left nor under the cell below
same-under : (q p : Point) → same q p ≡ xor (xor (under q.x q.y p) (under (pred_ℤ q.x) q.y p)) (xor (under q.x (pred_ℤ q.y) p) (under (pred_ℤ q.x) (pred_ℤ q.y) p))
unfolding same under
same-under q p = ap₂ (λ s t. s && t) (eq-xor p.x q.x) (eq-xor p.y q.y) ∙ xor-and _ _ _ _

-- so the parity of one point is read off four cells
odd-marks : (q : Point) (ps : List Point) → odd (same q) ps ≡ xor (xor (marks ps q.x q.y) (marks ps (pred_ℤ q.x) q.y)) (xor (marks ps q.x (pred_ℤ q.y)) (marks ps (pred_ℤ q.x) (pred_ℤ q.y)))
unfolding marks
odd-marks q ps =
    odd-cong (same q) _ ps (λ p n. same-under q p)
    ∙ odd-xor (λ p. xor (under q.x q.y p) (under (pred_ℤ q.x) q.y p)) (λ p. xor (under q.x (pred_ℤ q.y) p) (under (pred_ℤ q.x) (pred_ℤ q.y) p)) ps
    ∙ rw (odd-xor (under q.x q.y) (under (pred_ℤ q.x) q.y) ps, odd-xor (under q.x (pred_ℤ q.y)) (under (pred_ℤ q.x) (pred_ℤ q.y)) ps)

pub marks-alike : (ps qs : List Point) → ((a b : ℤ) → marks ps a b ≡ marks qs a b) → Alike ps qs
marks-alike ps qs h = points-alike ps qs (λ q. odd-marks q ps ∙ rw (h q.x q.y, h (pred_ℤ q.x) q.y, h q.x (pred_ℤ q.y), h (pred_ℤ q.x) (pred_ℤ q.y)) (sym (odd-marks q qs)))

pub alike-marks : {ps qs : List Point} → Alike ps qs → (a b : ℤ) → marks ps a b ≡ marks qs a b
unfolding marks
alike-marks h a b = h.parity (under a b)
