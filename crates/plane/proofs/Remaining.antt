-- Request 2: the points that remain have the parity of every test, so that rows, columns, marks and the edge are those of the points as given; they
-- stand once each, in the order of first listing, and no other list does.
use mathlib.Core.Path.{◌≡◌, refl, sym, ap, ap₂, subst, fun_ext, ◌∙◌}
use Prim.Native.Nat.{ℕ, suc, ◌≤◌}
use native.Mathlib.Omega.{arith}
use mathlib.Core.Bool.{Bool, true, false, not, cond, ◌&&◌, ◌||◌, and-false, false≢true}
use mathlib.Core.List.Memᴰ.{head}
use mathlib.Core.List.Memᴰ.{not-nil}
use mathlib.Core.List.Memᴰ.{tail}
use mathlib.Core.List.{List, [], ◌∷◌, Memᴰ as In}
use lib.ListN.{length}
use lib.IntN.{ℤ}
use Rattle.plane.specs.declared.Point.{Point}
use Rattle.plane.specs.Lists.{bit, any, count, odd, keep, only}
use Rattle.plane.specs.Words.{same, on_row, in_column, rising, in_order, marks}
use Rattle.plane.specs.Sorted.{sorted_by}
use Rattle.plane.specs.Swaps.{SameItems, off_pairs}
use Rattle.plane.specs.Edge.{x_of, y_of, edge_length}
use Rattle.plane.specs.Remaining.{Balanced, firsts, remaining, first_at, InTurn, none, next}
use Rattle.plane.proofs.Bools.{clash, by-no, iff, cond-true, cond-false, and_parts, and-make, bit-most}
use Rattle.plane.proofs.Sums.{sum-cong, any-find, any-in, any-only, count-sum, count-find, count_none, count-only, count-mono, length-only, only-all}
use Rattle.plane.proofs.Parity.{odd-find, odd-one, once-odd}
use Rattle.plane.proofs.Points.{same-is, same_refl, same-swap, same_in, once-rest, once-apart}
use Rattle.plane.proofs.Alike.{Alike, points-alike, alike-marks}
use Rattle.plane.proofs.Rising.{rising-once, rising-front, rising-unique, in_order-rising, in_order-has}
use Rattle.plane.proofs.Swaps.{same-odd}
use Rattle.plane.proofs.Pairs.{off-odd, off-ascends}
use Rattle.plane.proofs.Lines.{lined_before}
use Rattle.plane.proofs.Edge.{marks-edge, rows-ordered}

-- ---- Each point once, where first listed

-- a point stands there once if it is listed, and not otherwise
firsts-once : (q : Point) (ps : List Point) → count (same q) (firsts ps) ≡ bit (any (same q) ps)
unfolding firsts count any
firsts-once q [] = refl
firsts-once q (p ∷ ps) = go (same q p) refl (count-only (same q) (λ r. not (same p r)) (firsts ps)) (firsts-once q ps)
  where
    others : Point → Bool
    others r = not (same p r) && same q r

    is-p : same q p ≡ true → (r : Point) → others r ≡ true → ⊥
    is-p e r d =
        let h = and_parts (not (same p r)) (same q r) d in
        let g : same p r ≡ true = rw (← same-is q p e) h.1 in
        false≢true (sym (ap not g) ∙ h.0)

    not-p : same q p ≡ false → (r : Point) (b : Bool) → same q r ≡ b → (not (same p r) && b) ≡ b
    not-p e r true d = rw (← same-is q r d, same-swap p q, e)
    not-p e r false d = and-false (not (same p r))

    go : (b : Bool) → same q p ≡ b → count (same q) (only (λ r. not (same p r)) (firsts ps)) ≡ count others (firsts ps) → count (same q) (firsts ps) ≡ bit (any (same q) ps) →
        cond b (suc (count (same q) (only (λ r. not (same p r)) (firsts ps)))) (count (same q) (only (λ r. not (same p r)) (firsts ps))) ≡ bit (b || any (same q) ps)
    go true e c ih = ap suc (c ∙ count_none others (firsts ps) (by-no (any others (firsts ps)) (λ a. let r = any-find others (firsts ps) a in is-p e r.0 r.2)))
    go false e c ih =
        c
        ∙ count-sum others (firsts ps)
        ∙ sum-cong (λ r. bit (others r)) (λ r. bit (same q r)) (firsts ps) (λ r m. ap bit (not-p e r (same q r) refl))
        ∙ sym (count-sum (same q) (firsts ps))
        ∙ ih

-- no more than were listed
firsts-few : (ps : List Point) → length (firsts ps) ≤ length ps
unfolding firsts
firsts-few [] = omega arith
firsts-few (p ∷ ps) = omega (arith, length-only (λ q. not (same p q)) (firsts ps), firsts-few ps)

-- points of which none stands twice are so already
firsts_same : (ps : List Point) → ((q : Point) → count (same q) ps ≤ 1) → firsts ps ≡ ps
unfolding firsts
firsts_same [] once = refl
firsts_same (p ∷ ps) once = rw (firsts_same ps (once-rest p ps once)) (ap (λ l. p ∷ l) (only-all (λ q. not (same p q)) ps (λ q m. ap not (same-swap p q ∙ once-apart p ps once m))))

-- ---- The points that remain

-- a point remains just if it is listed an odd number of times
pub remaining-has : (ps : List Point) (q : Point) → any (same q) (remaining ps) ≡ odd (same q) ps
unfolding remaining
remaining-has ps q = any-only (same q) (λ p. odd (same p) ps) (firsts ps) ∙ iff (any both (firsts ps)) (odd (same q) ps) is_odd is-there
  where
    both : Point → Bool
    both p = odd (same p) ps && same q p

    is_odd : any both (firsts ps) ≡ true → odd (same q) ps ≡ true
    is_odd e =
        let r = any-find both (firsts ps) e in
        let h = and_parts (odd (same r.0) ps) (same q r.0) r.2 in
        rw (same-is q r.0 h.1) h.0

    is-there : odd (same q) ps ≡ true → any both (firsts ps) ≡ true
    is-there e =
        let r = odd-find (same q) ps e in
        let one : count (same q) (firsts ps) ≡ 1 = firsts-once q ps ∙ ap bit (any-in (same q) r.1 r.2) in
        let f = count-find (same q) (firsts ps) (omega arith) in
        any-in both f.1 (and-make (odd (same f.0) ps) (same q f.0) (rw (← same-is q f.0 f.2) e) f.2)

-- each stands once
pub remaining-once : (ps : List Point) (q : Point) → count (same q) (remaining ps) ≤ 1
unfolding remaining
remaining-once ps q =
    omega
    (arith, count-only (same q) (λ p. odd (same p) ps) (firsts ps), count-mono (λ p. odd (same p) ps && same q p) (same q) (firsts ps) (λ p m e. (and_parts (odd (same p) ps) (same q p) e).1), firsts-once q ps, bit-most (any (same q) ps))

-- what remains was listed
remaining-in : (ps : List Point) (q : Point) → In q (remaining ps) → In q ps
remaining-in ps q m = let r = odd-find (same q) ps (sym (remaining-has ps q) ∙ any-in (same q) m (same_refl q)) in subst (λ p. In p ps) (sym (same-is q r.0 r.2)) r.1

-- no more remain than are listed
pub remaining-few : (ps : List Point) → length (remaining ps) ≤ length ps
unfolding remaining
remaining-few ps = omega (arith, length-only (λ p. odd (same p) ps) (firsts ps), firsts-few ps)

-- points of which none stands twice all remain
pub remaining-same : (ps : List Point) → ((q : Point) → count (same q) ps ≤ 1) → remaining ps ≡ ps
unfolding remaining
remaining-same ps once = ap (only (λ p. odd (same p) ps)) (firsts_same ps once) ∙ only-all (λ p. odd (same p) ps) ps (λ q m. odd-one (same q) m (same_refl q) (once q))

-- ---- Rows, columns, marks and the edge

module _ (ps : List Point) where
  -- every test passes as odd a number of them
  remaining-alike : Alike ps (remaining ps)
  remaining-alike = points-alike ps (remaining ps) (λ q. sym (once-odd (same q) (remaining ps) (remaining-once ps q) ∙ remaining-has ps q))

  -- so a row is even over the points as given exactly when it is over those that remain
  pub remaining-row : (y : ℤ) → odd (on_row y) (remaining ps) ≡ odd (on_row y) ps
  remaining-row y = sym (remaining-alike.parity (on_row y))

  -- and so is a column
  pub remaining-column : (x : ℤ) → odd (in_column x) (remaining ps) ≡ odd (in_column x) ps
  remaining-column x = sym (remaining-alike.parity (in_column x))

  -- they mark the cells that the points as given mark
  pub remaining-marks : marks (remaining ps) ≡ marks ps
  remaining-marks = fun_ext (λ a. fun_ext (λ b. sym (alike-marks remaining-alike a b)))

  module _ (h : Balanced ps) where
    -- of points in range with even rows and columns, those that remain are so
    pub remaining-balanced : Balanced (remaining ps)
    remaining-balanced = record { range = λ q m. h.range q (remaining-in ps q m); rows = λ y. remaining-row y ∙ h.rows y; columns = λ x. remaining-column x ∙ h.columns x }

    -- and have the same edge
    pub remaining-edge : edge_length (remaining ps) ≡ edge_length ps
    remaining-edge = marks-edge (remaining ps) ps remaining-balanced h (λ a b. rw remaining-marks)

-- ---- In order of y, then x

-- a rising list with the parity of every test is what remains, in order
remaining-rising : (ps qs : List Point) → rising qs ≡ true → ((p : Point) → odd (same p) qs ≡ odd (same p) ps) → qs ≡ in_order (remaining ps)
remaining-rising ps qs r h = rising-unique qs (in_order (remaining ps)) r (in_order-rising (remaining ps)) (λ p. sym (once-odd (same p) qs (rising-once qs r p)) ∙ h p ∙ sym (in_order-has (same p) (remaining ps) ∙ remaining-has ps p))

-- so the points as given, in order, without equal neighbours two by two, are those that remain, in order
pub off-remaining : (ps qs : List Point) → SameItems qs ps → sorted_by (lined_before y_of x_of) qs ≡ qs → off_pairs same qs ≡ in_order (remaining ps)
unfolding rising
off-remaining ps qs s e =
    remaining-rising ps (off_pairs same qs)
    (off-ascends same same-is rows-ordered same_refl (λ l. rising l ≡ true) refl (λ p l r first. rising-front p l r first) qs e)
    (λ p. off-odd same same-is (same p) qs ∙ same-odd s (same p))

-- ---- The order of first listing

-- a point first listed at k, before points in turn from there on
turn-next : {ps qs : List Point} {n k : ℕ} (q : Point) → first_at q ps ≡ k → n ≤ k → InTurn ps (suc k) qs → InTurn ps n (q ∷ qs)
turn-next {ps} {qs} {n} q e h t = next {n = n} {q = q} (omega arith) (subst (λ i. InTurn ps (suc i) qs) (sym e) t)

-- in turn from n on is in turn from an earlier place on
turn-from : {ps qs : List Point} {m n : ℕ} → m ≤ n → InTurn ps n qs → InTurn ps m qs
turn-from h none = none
turn-from {m = m} h (next {q = q} g t) = next {n = m} {q = q} (omega arith) t

-- those in turn that pass a test are in turn
turn-only : {ps : List Point} (f : Point → Bool) {n : ℕ} (qs : List Point) → InTurn ps n qs → InTurn ps n (only f qs)
unfolding only
turn-only f [] none = none
turn-only {ps} f {n} (q ∷ qs) (next h t) = go (f q) (turn-only f {n = suc (first_at q ps)} qs t)
  where
    go : (b : Bool) → InTurn ps (suc (first_at q ps)) (only f qs) → InTurn ps n (keep b q (only f qs))
    go true ih = next h ih
    go false ih = turn-from (omega arith) ih

-- with a point listed before, the others come one later
turn-later : {ps : List Point} (p : Point) {n : ℕ} (qs : List Point) → InTurn ps n qs → InTurn (p ∷ ps) (suc n) (only (λ q. not (same p q)) qs)
unfolding only first_at
turn-later p [] none = none
turn-later {ps} p {n} (q ∷ qs) (next h t) = go (same p q) refl (turn-later p {n = suc (first_at q ps)} qs t)
  where
    go : (b : Bool) → same p q ≡ b → InTurn (p ∷ ps) (suc (suc (first_at q ps))) (only (λ r. not (same p r)) qs) → InTurn (p ∷ ps) (suc n) (keep (not b) q (only (λ r. not (same p r)) qs))
    go true e ih = turn-from (omega arith) ih
    go false e ih = turn-next q (cond-false (same q p) 0 (suc (first_at q ps)) (same-swap q p ∙ e)) (omega arith) ih

firsts-turn : (ps : List Point) → InTurn ps 0 (firsts ps)
unfolding firsts first_at
firsts-turn [] = none
firsts-turn (p ∷ ps) = turn-next {n = 0} {k = 0} p (cond-true (same p p) 0 (suc (first_at p ps)) (same_refl p)) (omega arith) (turn-later p (firsts ps) (firsts-turn ps))

-- the points that remain stand in the order of first listing
pub remaining-turn : (ps : List Point) → InTurn ps 0 (remaining ps)
unfolding remaining
remaining-turn ps = turn-only (λ p. odd (same p) ps) (firsts ps) (firsts-turn ps)

-- a listed point is told by its first place
first-tells : {p q : Point} {ps : List Point} → In p ps → In q ps → first_at p ps ≡ first_at q ps → p ≡ q
unfolding first_at
first-tells {ps = []} m n e = elim m [ ]
first-tells {p} {q} {ps = r ∷ ps} m n e = go (same p r) refl (same q r) refl m n e (λ i j d. first-tells i j d)
  where
    go : (b : Bool) → same p r ≡ b → (c : Bool) → same q r ≡ c → In p (r ∷ ps) → In q (r ∷ ps) → cond b 0 (suc (first_at p ps)) ≡ cond c 0 (suc (first_at q ps)) → (In p ps → In q ps → first_at p ps ≡ first_at q ps → p ≡ q) → p ≡ q
    go true d true f m n e ih = same-is p r d ∙ sym (same-is q r f)
    go true d false f m n e ih = absurd (omega arith)
    go false d true f m n e ih = absurd (omega arith)
    go false d false f (head g) n e ih = clash (rw g (same_refl r)) d
    go false d false f (tail m) (head g) e ih = clash (rw g (same_refl r)) f
    go false d false f (tail m) (tail n) e ih = ih m n (omega arith)

-- every point in turn from n on is first listed at n or later
turn-least : {ps : List Point} {n : ℕ} {qs : List Point} → InTurn ps n qs → {q : Point} → In q qs → n ≤ first_at q ps
turn-least none m = elim m [ ]
turn-least {ps} (next {q = r} h t) {q} (head e) = let d : first_at q ps ≡ first_at r ps = ap (λ p. first_at p ps) e in omega arith
turn-least (next h t) (tail m) = let g = turn-least t m in omega arith

-- points in turn are determined by which they are
turn-unique : (ps : List Point) {m n : ℕ} (qs rs : List Point) → InTurn ps m qs → InTurn ps n rs → ((q : Point) → In q qs → In q ps) → ((q : Point) → In q qs → In q rs) → ((q : Point) → In q rs → In q qs) → qs ≡ rs
turn-unique ps [] [] none none l f g = refl
turn-unique ps [] (r ∷ rs) none t l f g = absurd (not-nil (g r (head refl)))
turn-unique ps (q ∷ qs) [] t none l f g = absurd (not-nil (f q (head refl)))
turn-unique ps (q ∷ qs) (r ∷ rs) (next h t) (next k u) l f g =
    let e : q ≡ r = first-tells (l q (head refl)) (l r (g r (head refl))) (omega (arith, turn-first t (g r (head refl)), turn-first u (f q (head refl)))) in
    ap₂ ◌∷◌ e (turn-unique ps {m = suc (first_at q ps)} {n = suc (first_at r ps)} qs rs t u (λ p i. l p (tail i)) (λ p i. rest e t u p i (f p (tail i))) (λ p i. rest (sym e) u t p i (g p (tail i))))
  where
    turn-first : {p : Point} {ss : List Point} → InTurn ps (suc (first_at p ps)) ss → {s : Point} → In s (p ∷ ss) → first_at p ps ≤ first_at s ps
    turn-first {p} v {s} (head d) = let z : first_at s ps ≡ first_at p ps = ap (λ o. first_at o ps) d in omega arith
    turn-first v (tail i) = let z = turn-least v i in omega arith

    rest : {a b : Point} {us bs : List Point} → a ≡ b → InTurn ps (suc (first_at a ps)) us → InTurn ps (suc (first_at b ps)) bs → (p : Point) → In p us → In p (b ∷ bs) → In p bs
    rest {a} {b} d v w p i (head c) = let z : first_at p ps ≡ first_at a ps = ap (λ o. first_at o ps) (c ∙ sym d) in absurd (omega (arith, turn-least v i))
    rest d v w p i (tail j) = j

-- so no other list has just the points listed an odd number of times, each once, in the order of first listing
pub remaining-only : (ps qs : List Point) → InTurn ps 0 qs → ((p : Point) → any (same p) qs ≡ odd (same p) ps) → qs ≡ remaining ps
remaining-only ps qs t h = turn-unique ps qs (remaining ps) t (remaining-turn ps) (λ q m. remaining-in ps q (to q m)) to (λ q m. same_in q qs (h q ∙ sym (remaining-has ps q) ∙ any-in (same q) m (same_refl q)))
  where
    to : (q : Point) → In q qs → In q (remaining ps)
    to q m = same_in q (remaining ps) (remaining-has ps q ∙ sym (h q) ∙ any-in (same q) m (same_refl q))
