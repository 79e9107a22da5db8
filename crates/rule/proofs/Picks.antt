-- K, L and M at an accepted list that is not empty: they exist, and are what document 01 says.
use mathlib.Core.Path.{◌≡◌, refl, sym, ◌∙◌, subst}
use Prim.Native.Nat.{◌≤◌, ◌<◌}
use native.Mathlib.Omega.{arith}
use mathlib.Core.Bool.{Bool, true, false, not, cond, ◌&&◌}
use mathlib.Core.List.Memᴰ.{head}
use mathlib.Core.List.Memᴰ.{tail}
use mathlib.Core.List.{List, [], ◌∷◌, Memᴰ as In}
use mathlib.Core.Option.{Option, none, some, get_or}
use lib.ListN.{length}
use lib.IntN.{ℤ}
use lib.Signed.{le_z, lt_z}
use borrow.Author.Tests.{not-true}
use Rattle.plane.specs.declared.Point.{Point}
use Rattle.plane.specs.Lists.{count, odd}
use Rattle.plane.specs.Words.{origin, eq_z, same, on_row, in_column, before}
use Rattle.plane.proofs.Order.{order, eq_z-is, eq_z-refl}
use Rattle.plane.proofs.Bools.{by, by-no, and_parts, and-make, clash, xor-false}
use Rattle.plane.proofs.Sums.{any-in}
use Rattle.plane.proofs.Parity.{odd-find}
use Rattle.plane.proofs.Points.{same-is, odd-without, After, above, along, after-refl, after-trans, after-row, after-no, after-yes, after_both, before-after, before-trans}
use Rattle.rule.specs.Rule.{earlier, or_found, first_in, pick_k, pick_l, pick_m, right_of, over, stops, stopper, IsFirst, Picked}
use Rattle.rule.specs.Rows.{Accepted}

-- ---- The first point that passes a test

-- the earliest of three is that of the earlier of two and the third
pub earlier-assoc : (p q : Point) (o : Option Point) → earlier (earlier p (some q)) o ≡ earlier p (some (earlier q o))
earlier-assoc p q none = refl
earlier-assoc p q (some r) = go (before r q) refl (before q p) refl
  where
    go : (b : Bool) → before r q ≡ b → (c : Bool) → before q p ≡ c → earlier (cond c q p) (some r) ≡ earlier p (some (cond b r q))
    go true e true d = rw (e, before-trans r q p e d)
    go true e false d = refl
    go false e true d = rw (e, d)
    go false e false d = rw (d, by-no (before r p) (λ f. before-after r p f (after-trans (after-no r q e) (after-no q p d))))

-- every point of the list that passes is the first or after it
pub least : {f : Point → Bool} {ps : List Point} {k : Point} → IsFirst f ps k → (q : Point) → In q ps → f q ≡ true → After q k
least {k = k} t q n g = after-no q k (t.none_before q n g)

-- a point that passes is the first if every one that passes is it or after it
pub is-first : {f : Point → Bool} {ps : List Point} {k : Point} → In k ps → f k ≡ true → ((q : Point) → In q ps → f q ≡ true → After q k) → IsFirst f ps k
is-first {k = k} n e h = record { within = n; passes = e; none_before = λ q i g. by-no (before q k) (λ b. before-after q k b (h q i g)) }

data First (f : Point → Bool) (ps : List Point) : Option Point → Type 0 where
  nothing : ((q : Point) → In q ps → f q ≡ false) → First f ps none
  thing : {k : Point} → IsFirst f ps k → First f ps (some k)

first : (f : Point → Bool) (ps : List Point) → First f ps (first_in f ps)
unfolding first_in
first f [] = nothing empty
  where
    empty : (q : Point) → In q [] → f q ≡ false
    empty q n = elim n [ ]
first f (p ∷ ps) = go (f p) refl (first_in f ps) (first f ps)
  where
    alone : f p ≡ true → ((q : Point) → In q ps → f q ≡ true → After q p) → IsFirst f (p ∷ ps) p
    alone e h = is-first (head refl) e low
      where
        low : (q : Point) → In q (p ∷ ps) → f q ≡ true → After q p
        low q (head d) g = rw d (after-refl p)
        low q (tail n) g = h q n g

    behind : {k : Point} → IsFirst f ps k → (f p ≡ true → After p k) → IsFirst f (p ∷ ps) k
    behind {k} t h = is-first (tail t.within) t.passes low
      where
        low : (q : Point) → In q (p ∷ ps) → f q ≡ true → After q k
        low q (head d) g = rw d (h (subst (λ (r : Point). f r ≡ true) d g))
        low q (tail n) g = least t q n g

    go : (b : Bool) → f p ≡ b → (o : Option Point) → First f ps o → First f (p ∷ ps) (or_found b p o)
    go false e none (nothing h) = nothing none_of
      where
        none_of : (q : Point) → In q (p ∷ ps) → f q ≡ false
        none_of q (head d) = rw d e
        none_of q (tail n) = h q n
    go false e (some k) (thing t) = thing (behind t (λ g. clash g e))
    go true e none (nothing h) = thing (alone e (λ q n g. clash g (h q n)))
    go true e (some k) (thing t) = choose (before k p) refl
      where
        choose : (c : Bool) → before k p ≡ c → First f (p ∷ ps) (some (cond c k p))
        choose true l = thing (behind t (λ g. after-yes k p l))
        choose false l = thing (alone e (λ q n g. after-trans (least t q n g) (after-no k p l)))

-- where some point passes, the first is found
pub first_found : (f : Point → Bool) (ps : List Point) (d : Point) {q : Point} → In q ps → f q ≡ true → IsFirst f ps (get_or (first_in f ps) d)
first_found f ps d {q} n e = go (first_in f ps) (first f ps)
  where
    go : (o : Option Point) → First f ps o → IsFirst f ps (get_or o d)
    go none (nothing h) = clash e (h q n)
    go (some k) (thing t) = t

-- the first is the only one, and is the same for lists with the same points that pass
pub first-unique : {f g : Point → Bool} {ps qs : List Point} {k l : Point} → IsFirst f ps k → IsFirst g qs l → In k qs → g k ≡ true → In l ps → f l ≡ true → k ≡ l
first-unique {k = k} {l} s t nk gk nl fl = same-is k l (after_both k l (least s l nl fl) (least t k nk gk))

-- ---- K, L and M as document 01 describes them

module _ {ps : List Point} {k l : Point} {m : ℤ} (c : Picked ps k l m) where
  -- every point is K or after it
  pub after-k : (q : Point) → In q ps → After q k
  after-k q n = least c.first-k q n refl

  -- L is on K's row
  pub level : l.y ≡ k.y
  unfolding right_of on_row
  level = eq_z-is _ _ (and_parts (on_row k.y l) (lt_z k.x l.x) c.first-l.passes).0

  -- L is right of K
  pub l-right_of : lt_z k.x l.x ≡ true
  unfolding right_of
  l-right_of = (and_parts (on_row k.y l) (lt_z k.x l.x) c.first-l.passes).1

  -- no point lies between K and L
  pub gap : (q : Point) → In q ps → q.y ≡ k.y → lt_z k.x q.x ≡ true → le_z l.x q.x ≡ true
  unfolding right_of on_row
  gap q n e h = go (least c.first-l q n (and-make (on_row k.y q) (lt_z k.x q.x) (omega order) h))
    where
      go : After q l → le_z l.x q.x ≡ true
      go (above g) = let d = level in absurd (omega order)
      go (along d g) = g

  -- M is above K's row
  pub higher : lt_z k.y m ≡ true
  unfolding stopper
  higher = rw c.row-m at (and_parts (lt_z k.y c.on-m.y) (stops ps k.x l.x c.on-m.y) c.first-m.passes).0

  -- no row of a point between K's and M stops
  pub clear : (q : Point) → In q ps → lt_z k.y q.y ≡ true → lt_z q.y m ≡ true → stops ps k.x l.x q.y ≡ false
  unfolding stopper
  clear q n h g = by-no (stops ps k.x l.x q.y) (λ e.
      let r = after-row (least c.first-m q n (and-make (lt_z k.y q.y) (stops ps k.x l.x q.y) h e)) in
      let d = c.row-m in
      omega order)

  -- K and L are two points
  pub apart : same l k ≡ false
  unfolding same
  apart = let r = l-right_of in let d : eq_z l.x k.x ≡ false = omega order in rw d

-- ---- They exist

-- a point of a row, at or right of xK and left of xL, stops
pub over-make : (xk xl y : ℤ) (q : Point) → on_row y q ≡ true → le_z xk q.x ≡ true → lt_z q.x xl ≡ true → over xk xl y q ≡ true
unfolding over
over-make xk xl y q a b c = let d : le_z q.x xl ≡ true = omega order in simp (a, b, c, d)

-- an even test that K passes has another point
another : (f : Point → Bool) {k : Point} {ps : List Point} → In k ps → count (same k) ps ≤ 1 → f k ≡ true → odd f ps ≡ false → (q : Point) × In q ps × (same k q ≡ false) × (f q ≡ true)
another f {k} {ps} n o e h =
    let r = odd-find (λ q. not (same k q) && f q) ps (sym (odd-without f n o) ∙ rw (e, h) (xor-false true)) in
    let g = and_parts (not (same k r.0)) (f r.0) r.2 in
    (r.0, r.1, not-true (same k r.0) g.0, g.1)

-- two points that differ, on one row or in one column
apart-x : (k q : Point) → same k q ≡ false → q.y ≡ k.y → After q k → lt_z k.x q.x ≡ true
unfolding same
apart-x k q e d (above h) = absurd (omega order)
apart-x k q e d (along g h) = by (lt_z k.x q.x) (λ i. clash (and-make (eq_z k.x q.x) (eq_z k.y q.y) (omega order) (omega order)) e)

apart-y : (k q : Point) → same k q ≡ false → q.x ≡ k.x → After q k → lt_z k.y q.y ≡ true
unfolding same
apart-y k q e d (above h) = h
apart-y k q e d (along g h) = clash (and-make (eq_z k.x q.x) (eq_z k.y q.y) (omega order) (omega order)) e

module _ {ps : List Point} {k : Point} (acc : Accepted ps) (f : IsFirst (λ p. true) ps k) where
  -- K's row is even, so it has a second point
  l-exists : IsFirst (right_of k) ps (pick_l k ps)
  unfolding pick_l right_of on_row
  l-exists =
      let q = another (on_row k.y) f.within (acc.once k) (eq_z-refl k.y) (acc.rows k.y) in
      let e : q.0.y ≡ k.y = eq_z-is _ _ q.3 in
      first_found (right_of k) ps k q.1 (and-make _ _ q.3 (apart-x k q.0 q.2 e (least f q.0 q.1 refl)))

  -- K's column is even, so a point of it stands above K
  pub above-in-column : (q : Point) × In q ps × (q.x ≡ k.x) × (lt_z k.y q.y ≡ true)
  unfolding in_column
  above-in-column =
      let q = another (in_column k.x) f.within (acc.once k) (eq_z-refl k.x) (acc.columns k.x) in
      let e : q.0.x ≡ k.x = eq_z-is _ _ q.3 in
      (q.0, q.1, e, apart-y k q.0 q.2 e (least f q.0 q.1 refl))

  -- that point stops
  m-exists : (l : Point) → lt_z k.x l.x ≡ true → IsFirst (stopper k l ps) ps (get_or (first_in (stopper k l ps) ps) k)
  unfolding stopper stops on_row
  m-exists l r =
      let q = above-in-column in
      let e = q.2 in
      let inside = any-in (over k.x l.x q.0.y) q.1 (over-make k.x l.x q.0.y q.0 (eq_z-refl q.0.y) (omega order) (omega order)) in
      first_found (stopper k l ps) ps k q.1 (and-make _ _ q.3 (rw inside))

-- L and M exist, at an accepted list that is not empty
pub picks : (p : Point) (qs : List Point) → Accepted (p ∷ qs) → let ps = p ∷ qs in Picked ps (pick_k ps) (pick_l (pick_k ps) ps) (pick_m (pick_k ps) (pick_l (pick_k ps) ps) ps)
unfolding pick_k pick_m right_of
picks p qs acc =
    let ps : List Point = p ∷ qs in
    let k : Point = pick_k ps in
    let l : Point = pick_l k ps in
    let fk : IsFirst (λ p. true) ps k = first_found (λ p. true) ps origin (head refl) refl in
    let fl : IsFirst (right_of k) ps l = l-exists acc fk in
    record {
      first-k = fk;
      first-l = fl;
      on-m = get_or (first_in (stopper k l ps) ps) k;
      first-m = m-exists acc fk l (and_parts (on_row k.y l) (lt_z k.x l.x) fl.passes).1;
      row-m = refl;
    }

-- the same of a list with a point or more
pub picks-some : (ps : List Point) → 0 < length ps → Accepted ps → Picked ps (pick_k ps) (pick_l (pick_k ps) ps) (pick_m (pick_k ps) (pick_l (pick_k ps) ps) ps)
picks-some [] h acc = absurd (omega arith)
picks-some (p ∷ qs) h acc = picks p qs acc
