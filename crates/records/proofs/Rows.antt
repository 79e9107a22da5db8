-- Laws of the order's rows, as the code's table has them.
use mathlib.Core.Path.{◌≡◌, refl, sym, ap, ◌∙◌}
use mathlib.Core.Logic.{◌⊎◌, inl, inr, ◌≢◌}
use Prim.Native.Nat.{ℕ, zero, suc, ◌+◌, ◌≤◌, ◌<◌}
use native.Mathlib.Omega.{arith}
use mathlib.Core.Bool.{Bool, true, cond, ◌&&◌, ◌||◌}
use mathlib.Core.List.{List, [], ◌∷◌, map}
use lib.ListN.{length, get_or}
use lib.Dec.{eqb, ltb}
use borrow.Author.Tests.{ltb-true, eqb-true, eq-eqb, ne_eqb}
use Rattle.plane.proofs.Bools.{or-one, and_parts, cond-true, cond-false}
use Rattle.plane.proofs.Maps.{map_at}
use Rattle.std.proofs.Common.{Some, None}
use Rattle.records.specs.declared.Row.{Row as CodeRow}
use Rattle.records.specs.declared.TheConstants.{ORDER}
use Rattle.records.specs.Format.{Row, row, order, follow_in, follow}
use Rattle.records.specs.Inner.{row_of}
use Rattle.records.proofs.Tables.{every, every-at}

-- ---- Rows in order

-- rows are numbered from i on, and each leads to some row, and skips to one further down or to none
numbered : ℕ → List Row → Bool
numbered i [] = true
numbered i (r ∷ rs) = (eqb r.at i && (ltb 0 r.next && (eqb r.skip 0 || ltb i r.skip))) && numbered (suc i) rs

-- what a row's numbering says
record Numbered (i : ℕ) (r : Row) (rs : List Row) : Type 0 where
  here : r.at ≡ i
  leads : 0 < r.next
  down : (r.skip ≡ 0) ⊎ (i < r.skip)
  rest : numbered (suc i) rs ≡ true

number : (i : ℕ) (r : Row) (rs : List Row) → numbered i (r ∷ rs) ≡ true → Numbered i r rs
unfolding numbered
number i r rs e =
    let h = and_parts (eqb r.at i && (ltb 0 r.next && (eqb r.skip 0 || ltb i r.skip))) (numbered (suc i) rs) e in
    let k = and_parts (eqb r.at i) (ltb 0 r.next && (eqb r.skip 0 || ltb i r.skip)) h.0 in
    let l = and_parts (ltb 0 r.next) (eqb r.skip 0 || ltb i r.skip) k.1 in
    record { here = eqb-true r.at i k.0; leads = ltb-true 0 r.next l.0; down = go (or-one (eqb r.skip 0) (ltb i r.skip) l.1); rest = h.1 }
  where
    go : (eqb r.skip 0 ≡ true) ⊎ (ltb i r.skip ≡ true) → (r.skip ≡ 0) ⊎ (i < r.skip)
    go (inl d) = inl (eqb-true r.skip 0 d)
    go (inr d) = inr (ltb-true i r.skip d)

-- a row of another number is passed
pass : (r : Row) (rs : List Row) (at t : ℕ) → r.at ≢ at → follow_in (r ∷ rs) at t ≡ follow_in rs at t
unfolding follow_in
pass r rs at t n = rw (ne_eqb r.at at n)

-- at a row of this number
this : (r : Row) (rs : List Row) (at t : ℕ) → r.at ≡ at → follow_in (r ∷ rs) at t ≡ cond (eqb r.type t) r.next (follow_in rs r.skip t)
unfolding follow_in
this r rs at t e = rw (eq-eqb r.at at e)

-- no row has a number below the first
before-first : (rs : List Row) (i at t : ℕ) → numbered i rs ≡ true → at < i → follow_in rs at t ≡ 0
unfolding follow_in
before-first [] i at t e h = refl
before-first (r ∷ rs) i at t e h =
    let k = number i r rs e in
    pass r rs at t (λ d. omega (arith, k.here)) ∙ before-first rs (suc i) at t k.rest (omega arith)

-- nor one past the last
past-last : (rs : List Row) (i at t : ℕ) → numbered i rs ≡ true → i + length rs ≤ at → follow_in rs at t ≡ 0
unfolding follow_in
past-last [] i at t e h = refl
past-last (r ∷ rs) i at t e h =
    let k = number i r rs e in
    pass r rs at t (λ d. omega (arith, k.here)) ∙ past-last rs (suc i) at t k.rest (omega arith)

-- the row that stands nowhere
abbrev none : Row
none = row 0 0 0 0

-- what the row at a place does with a record
Does : List Row → Row → (at t : ℕ) → Type 0
Does rs r at t = follow_in rs at t ≡ cond (eqb r.type t) r.next (follow_in rs r.skip t)

-- it leads to some row, and skips to one above i or to none
record Way (i : ℕ) (r : Row) : Type 0 where
  leads : 0 < r.next
  down : (r.skip ≡ 0) ⊎ (i < r.skip)

at_place : (rs : List Row) (i k t : ℕ) → 0 < i → numbered i rs ≡ true → k < length rs → (Does rs (get_or rs k none) (i + k) t) × Way (i + k) (get_or rs k none)
unfolding Does
at_place [] i k t z e h = absurd (omega arith)
at_place (r ∷ rs) i zero t z e h =
    let k = number i r rs e in
    let same : i + 0 ≡ i = omega arith in
    (rw same (this r rs i t k.here ∙ ap (cond (eqb r.type t) r.next) (sym (pass r rs r.skip t (λ d. apart k.down (sym k.here ∙ d))))), rw same (record { leads = k.leads; down = k.down }))
  where
    apart : (r.skip ≡ 0) ⊎ (i < r.skip) → i ≡ r.skip → ⊥
    apart (inl d) g = omega arith
    apart (inr d) g = omega arith
at_place (r ∷ rs) i (suc k) t z e h =
    let m = number i r rs e in
    let same : i + suc k ≡ suc i + k = omega arith in
    let ih = at_place rs (suc i) k t (omega arith) m.rest (omega arith) in
    (rw same (pass r rs (suc i + k) t (λ d. omega (arith, m.here)) ∙ ih.0 ∙ ap (cond (eqb (get_or rs k none).type t) (get_or rs k none).next) (sym (pass r rs (get_or rs k none).skip t (λ d. apart (get_or rs k none).skip ih.1.down (sym m.here ∙ d))))), rw same ih.1)
  where
    apart : (s : ℕ) → (s ≡ 0) ⊎ (suc i + k < s) → i ≡ s → ⊥
    apart s (inl d) g = omega arith
    apart s (inr d) g = omega arith

order-numbered : numbered 1 order ≡ true
unfolding numbered order
order-numbered = refl

-- row 0 is none
pub follow-none : (t : ℕ) → follow 0 t ≡ 0
unfolding follow
follow-none t = before-first order 1 0 t order-numbered (omega arith)

order-length : length order ≡ 81
unfolding order
order-length = refl

-- none comes after row 81
pub follow-past : (at t : ℕ) → 82 ≤ at → follow at t ≡ 0
unfolding follow
follow-past at t h = past-last order 1 at t order-numbered (omega (arith, order-length))

-- the rows where another type is tried, after row 0
abbrev pub skips : List ℕ
skips = 0 ∷ map (λ (r : Row). r.skip) order

-- are rows, or none
pub skips-most : (i : ℕ) → i < 82 → get_or skips i 0 < 82
unfolding every order
skips-most i h = ltb-true (get_or skips i 0) 82 (every-at (λ k x. ltb x 82) skips refl i h)

-- ---- The code's table

-- a row of it
coded : Row → CodeRow
coded r = record { 0 = r.type; 1 = r.next; 2 = row_of r.skip }

order-is : ORDER ≡ map coded order
unfolding order coded
order-is = refl

-- what a row's numbers are in it
row-some : (n : ℕ) → 0 < n → row_of n ≡ Some n
row-some zero h = absurd (omega arith)
row-some (suc n) h = refl

skips-to : (n s : ℕ) → row_of n ≡ Some s → (n ≡ s) × (0 < n)
skips-to zero s e = absurd cc
skips-to (suc n) s e = (cc, omega arith)

skips-none : (n : ℕ) → row_of n ≡ None → n ≡ 0
skips-none zero e = refl
skips-none (suc n) e = absurd cc

-- the row that stands nowhere
abbrev pub blank : CodeRow
blank = record { 0 = 0; 1 = 0; 2 = None }

-- a row by its place
abbrev at : ℕ → Row
at k = get_or order k none

module _ (k t : ℕ) {r : CodeRow} (h : k < 81) (is : r ≡ get_or ORDER k blank) where
  same : r ≡ coded (at k)
  same = is ∙ ap (λ (rs : List CodeRow). get_or rs k blank) order-is ∙ map_at coded order k none blank (omega (arith, order-length))

  here : (follow (suc k) t ≡ cond (eqb (at k).type t) (at k).next (follow (at k).skip t)) × Way (suc k) (at k)
  unfolding Does follow
  here = let e : 1 + k ≡ suc k = omega arith in rw e at (at_place order 1 k t (omega arith) order-numbered (omega (arith, order-length)))

  -- a record of the row's type leads to its next row
  pub follow-taken : r.0 ≡ t → Some r.1 ≡ row_of (follow (suc k) t)
  unfolding coded
  follow-taken e =
      let n : r.1 ≡ (at k).next = ap (λ (q : CodeRow). q.1) same in
      let u : (at k).type ≡ t = sym (ap (λ (q : CodeRow). q.0) same) ∙ e in
      ap Some n ∙ sym (ap row_of (here.0 ∙ cond-true (eqb (at k).type t) (at k).next (follow (at k).skip t) (eq-eqb (at k).type t u)) ∙ row-some (at k).next here.1.leads)

  module _ (other : r.0 ≢ t) where
    past : follow (suc k) t ≡ follow (at k).skip t
    unfolding coded
    past = here.0 ∙ cond-false (eqb (at k).type t) (at k).next (follow (at k).skip t) (ne_eqb (at k).type t (λ e. other (ap (λ (q : CodeRow). q.0) same ∙ e)))

    -- another one is tried where the row says, which is a row further down
    pub follow-left : (s : ℕ) → r.2 ≡ Some s → (follow s t ≡ follow (suc k) t) × (suc k < s) × (s < 82)
    unfolding coded
    follow-left s e =
        let u = skips-to (at k).skip s (sym (ap (λ (q : CodeRow). q.2) same) ∙ e) in
        let c = map_at (λ (q : Row). q.skip) order k none 0 (omega (arith, order-length)) in
        (sym (past ∙ ap (λ (n : ℕ). follow n t) u.0), go here.1.down u.0 u.1, rw (← u.0, ← c) (skips-most (suc k) (omega arith)))
      where
        go : {n : ℕ} → (n ≡ 0) ⊎ (suc k < n) → n ≡ s → 0 < n → suc k < s
        go (inl z) u g = absurd (omega arith)
        go (inr l) u g = omega arith

    -- or nowhere
    pub follow-ended : r.2 ≡ None → follow (suc k) t ≡ 0
    unfolding coded
    follow-ended e = past ∙ ap (λ (n : ℕ). follow n t) (skips-none (at k).skip (sym (ap (λ (q : CodeRow). q.2) same) ∙ e)) ∙ follow-none t
