-- Heads of records.
use mathlib.Core.Path.{◌≡◌, refl, sym, ap, ap₂, ◌∙◌, subst}
use mathlib.Core.Logic.{◌≢◌, ◌⊎◌, inl, inr}
use Prim.Native.Nat.{ℕ, zero, suc, ◌+◌, ◌-◌, ◌%◌, ◌≤◌, ◌<◌}
use native.Mathlib.Omega.{arith}
use mathlib.Core.Bool.{Bool, true, false, cond, ◌&&◌, ◌||◌, not}
use mathlib.Core.List.{List, ◌++◌}
use lib.ListN.{length, get_or, length-append, get_or-append}
use lib.Dec.{eqb, leb, ltb}
use borrow.Author.Tests.{ltb-true, ltb-false, lt-ltb, le-ltb, eqb-true, ne_eqb}
use Rattle.plane.proofs.Bools.{and_parts, cond-case}
use Rattle.bigendian.proofs.Laws.{number_append}
use Rattle.std.proofs.Common.{Result, Ok, Err, Some, None}
use Rattle.entry.specs.declared.Reason.{Reason}
use Rattle.entry.specs.declared.Reason.TheVariants.{Truncated, Record as Malformed}
use Rattle.records.specs.declared.Head.{Head}
use Rattle.records.specs.declared.Treatment.TheVariants.{End, Name, Leave, Refer, Layer, Vertices, Unknown, Skip}
use Rattle.records.specs.declared.Record.{Record}
use Rattle.records.specs.Format.{ENDLIB, STRNAME, ENDSTR, PATH, AREF, LAYER, XY, table, fits_length, fits_in, fits, follow}
use Rattle.records.specs.Records.{head_size, size_of, head_of, known, treatment_of, by_row, by_head, record_of}
use Rattle.records.specs.Inner.{row_of}

-- what the bad lengths are
pub bad-size : (n : ℕ) → (n % 2 ≢ 0) ⊎ ((n % 2 ≡ 0) × (n < 4)) → (not (eqb (n % 2) 0) || ltb n 4) ≡ true
bad-size n (inl d) = rw (ne_eqb (n % 2) 0 d)
bad-size n (inr h) = rw (h.0, lt-ltb n 4 h.1)

pub good-size : (n : ℕ) → n % 2 ≡ 0 → 4 ≤ n → (not (eqb (n % 2) 0) || ltb n 4) ≡ false
good-size n e g = rw (e, le-ltb n 4 g)

module _ (t : List ℕ) where
  pub head-short : length t < 4 → Err Truncated ≡ head_of t
  unfolding head_of
  head-short h = rw (lt-ltb (length t) 4 h)

  module _ (g : 4 ≤ length t) where
    pub head-cut : (n : ℕ) → n ≡ size_of t → length t < n → Err Truncated ≡ head_of t
    unfolding head_of
    head-cut n e h = rw (le-ltb (length t) 4 g, lt-ltb (length t) (size_of t) (omega arith))

    pub head-bad : (n : ℕ) → n ≡ size_of t → n ≤ length t → (not (eqb (n % 2) 0) || ltb n 4) ≡ true → Err Malformed ≡ head_of t
    unfolding head_of
    head-bad n e h b = rw (le-ltb (length t) 4 g, le-ltb (length t) (size_of t) (omega arith), rw e at b)

    pub head-whole : (n : ℕ) → n ≡ size_of t → n ≤ length t → (not (eqb (n % 2) 0) || ltb n 4) ≡ false → Ok (record { size = n; kind = get_or t 2 0; form = get_or t 3 0 }) ≡ head_of t
    unfolding head_of
    head-whole n e h b = rw (le-ltb (length t) 4 g, le-ltb (length t) (size_of t) (omega arith), rw e at b, e)

  -- what a head says: it is cut, bad, or whole, with at least four bytes and no more than there are
  data Headed : Result Head Reason → Type 0 where
    as-cut : Headed (Err Truncated)
    as-bad : Headed (Err Malformed)
    as-whole : {h : Head} → 4 ≤ h.size → h.size ≤ length t → Headed (Ok h)

  headed : Headed (head_of t)
  unfolding head_of
  headed =
      cond-case Headed (ltb (length t) 4) (λ _. as-cut) (λ _.
      cond-case Headed (ltb (length t) (size_of t)) (λ _. as-cut) (λ l.
      cond-case Headed (not (eqb (size_of t % 2) 0) || ltb (size_of t) 4) (λ _. as-bad) (λ b. as-whole (ltb-false (size_of t) 4 (small _ _ b)) (ltb-false (length t) (size_of t) l))))
    where
      small : (a b : Bool) → (a || b) ≡ false → b ≡ false
      small false b e = e
      small true b e = absurd cc

  pub whole-size : {h : Head} → head_of t ≡ Ok h → (4 ≤ h.size) × (h.size ≤ length t)
  whole-size {h} e = go (subst Headed e headed)
    where
      go : {h : Head} → Headed (Ok h) → (4 ≤ h.size) × (h.size ≤ length t)
      go (as-whole g l) = (g, l)

-- ---- Records, by their heads

module _ (row : ℕ) (t : List ℕ) where
  pub record-refused : {e : Reason} → head_of t ≡ Err e → Err e ≡ record_of row t
  unfolding record_of
  record-refused d = rw d

  module _ (h : Head) (e : head_of t ≡ Ok h) where
    pub record-unfit : fits h.kind h.form (h.size - 4) ≡ false → Err Malformed ≡ record_of row t
    unfolding record_of
    record-unfit u = rw (e, u)

    module _ (u : fits h.kind h.form (h.size - 4) ≡ true) where
      by : record_of row t ≡ by_row (follow row h.kind) h.size h.kind
      unfolding record_of
      by = rw (e, u)

      pub record-misplaced : row_of (follow row h.kind) ≡ None → Err Malformed ≡ record_of row t
      record-misplaced d = sym (by ∙ go (follow row h.kind) d)
        where
          go : (x : ℕ) → row_of x ≡ None → by_row x h.size h.kind ≡ Err Malformed
          go zero d = refl
          go (suc x) d = absurd cc

      pub record-good : (x : ℕ) → row_of (follow row h.kind) ≡ Some x → Ok (record { size = h.size; kind = h.kind; next = x }) ≡ record_of row t
      record-good x d = sym (by ∙ go (follow row h.kind) d)
        where
          go : (y : ℕ) → row_of y ≡ Some x → by_row y h.size h.kind ≡ Ok (record { size = h.size; kind = h.kind; next = x })
          go zero d = absurd cc
          go (suc y) d = let e : suc y ≡ x = cc in rw (ne_eqb (suc y) 0 (λ g. omega arith), ← e)

-- ---- What a record says of its head

-- TRUNCATED comes of a cut head; a good record is whole, with data that its type can have
data Told (t : List ℕ) : Result Record Reason → Type 0 where
  as-short : Told t (Err Truncated)
  as-other : Told t (Err Malformed)
  as-good : {h : Head} {x : ℕ} → head_of t ≡ Ok h → fits h.kind h.form (h.size - head_size) ≡ true → Told t (Ok (record { size = h.size; kind = h.kind; next = x }))

module _ (row : ℕ) (t : List ℕ) where
  told : Told t (record_of row t)
  unfolding record_of
  told = go (head_of t) refl (headed t)
    where
      go : (h : Result Head Reason) → head_of t ≡ h → Headed t h → Told t (by_head h row)
      go (Err e) d (as-cut) = as-short
      go (Err e) d (as-bad) = as-other
      go (Ok h) d g =
          cond-case (Told t) (fits h.kind h.form (h.size - head_size)) (λ u. cond-case (Told t) (eqb (follow row h.kind) 0) (λ _. as-other) (λ _. as-good d u)) (λ _. as-other)

  -- a record by itself is refused for one of two reasons
  pub unread-reason : {e : Reason} → record_of row t ≡ Err e → (e ≡ Truncated) ⊎ (e ≡ Malformed)
  unread-reason e = go (subst (Told t) e told)
    where
      go : {e : Reason} → Told t (Err e) → (e ≡ Truncated) ⊎ (e ≡ Malformed)
      go as-short = inl refl
      go as-other = inr refl

-- ---- A good record

-- it has at least a head, and no more bytes than there are
pub record Sized (t : List ℕ) (n : ℕ) : Type 0 where
  pub least : head_size ≤ n
  pub most : n ≤ length t

pub good-sized : (row : ℕ) (t : List ℕ) {r : Record} → record_of row t ≡ Ok r → Sized t r.size
good-sized row t e = go (subst (Told t) e (told row t))
  where
    go : {r : Record} → Told t (Ok r) → Sized t r.size
    go (as-good d u) = let w = whole-size t d in record { least = w.0; most = w.1 }

-- only LAYER is treated as a layer
treated-layer : (k : ℕ) → treatment_of k ≡ Layer → k ≡ LAYER
unfolding treatment_of
treated-layer k e = go (eqb k ENDLIB) (eqb k STRNAME) (eqb k ENDSTR) (leb PATH k && leb k AREF) (eqb k LAYER) refl (eqb k XY) (known k) e
  where
    go : (a b c d l : Bool) → eqb k LAYER ≡ l → (v s : Bool) → cond a End (cond b Name (cond c Leave (cond d Refer (cond l Layer (cond v Vertices (cond s Skip Unknown)))))) ≡ Layer → k ≡ LAYER
    go true b c d l i v s e = absurd cc
    go false true c d l i v s e = absurd cc
    go false false true d l i v s e = absurd cc
    go false false false true l i v s e = absurd cc
    go false false false false true i v s e = eqb-true k LAYER i
    go false false false false false i true s e = absurd cc
    go false false false false false i false true e = absurd cc
    go false false false false false i false false e = absurd cc

-- and a good one has its two bytes
pub layer-sized : (row : ℕ) (t : List ℕ) {r : Record} → record_of row t ≡ Ok r → treatment_of r.kind ≡ Layer → head_size + 2 ≤ r.size
unfolding fits fits_in table fits_length
layer-sized row t e l = go (subst (Told t) e (told row t)) l
  where
    two : (n f : ℕ) → fits LAYER f (n - head_size) ≡ true → head_size + 2 ≤ n
    two n f u = let s = eqb-true (n - head_size) 2 (and_parts (eqb 2 f) (eqb (n - head_size) 2) u).1 in omega arith

    go : {r : Record} → Told t (Ok r) → treatment_of r.kind ≡ Layer → head_size + 2 ≤ r.size
    go (as-good {h = h} d u) l = two h.size h.form (subst (λ (j : ℕ). fits j h.form (h.size - head_size) ≡ true) (treated-layer h.kind l) u)

-- ---- Bytes after a record that is not cut do not matter

module _ (t more : List ℕ) where
  head-append : head_of t ≢ Err Truncated → head_of (t ++ more) ≡ head_of t
  head-append n = long (ltb (length t) head_size) refl
    where
      g : length t ≤ length (t ++ more)
      g = omega (arith, length-append t more)

      same : head_size ≤ length t → size_of (t ++ more) ≡ size_of t
      same h = number_append 2 0 t more (omega arith)

      last : (h : head_size ≤ length t) → size_of t ≤ length t → (b : Bool) → (not (eqb (size_of t % 2) 0) || ltb (size_of t) head_size) ≡ b → head_of (t ++ more) ≡ head_of t
      last h i true e = sym (head-bad (t ++ more) (omega (arith, g)) (size_of t) (sym (same h)) (omega (arith, g)) e) ∙ head-bad t h (size_of t) refl i e
      last h i false e =
          sym (head-whole (t ++ more) (omega (arith, g)) (size_of t) (sym (same h)) (omega (arith, g)) e)
          ∙ ap₂ (λ (k f : ℕ). Ok (record { size = size_of t; kind = k; form = f })) (get_or-append t more 0 2 (omega arith)) (get_or-append t more 0 3 (omega arith))
          ∙ head-whole t h (size_of t) refl i e

      within : (h : head_size ≤ length t) → (b : Bool) → ltb (length t) (size_of t) ≡ b → head_of (t ++ more) ≡ head_of t
      within h true e = absurd (n (sym (head-cut t h (size_of t) refl (ltb-true (length t) (size_of t) e))))
      within h false e = last h (ltb-false (length t) (size_of t) e) (not (eqb (size_of t % 2) 0) || ltb (size_of t) head_size) refl

      long : (b : Bool) → ltb (length t) head_size ≡ b → head_of (t ++ more) ≡ head_of t
      long true e = absurd (n (sym (head-short t (ltb-true (length t) head_size e))))
      long false e = let h = ltb-false (length t) head_size e in within h (ltb (length t) (size_of t)) refl

  pub record-append : (row : ℕ) {r : Result Record Reason} → record_of row t ≡ r → r ≢ Err Truncated → record_of row (t ++ more) ≡ r
  unfolding record_of
  record-append row e n = ap (λ (h : Result Head Reason). by_head h row) (head-append (λ d. n (sym e ∙ sym (record-refused row t d)))) ∙ e
