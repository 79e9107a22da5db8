-- The walk from record to record: what each record makes of it, and where it leaves the cursor.
use mathlib.Core.Path.{◌≡◌, refl, sym, ap, ◌∙◌, subst}
use Prim.Native.Nat.{ℕ, zero, suc, ◌+◌, ◌-◌, ◌*◌, ◌/◌, ◌≤◌, ◌<◌}
use native.Mathlib.Omega.{arith}
use mathlib.Core.Bool.{Bool, false, ◌&&◌}
use mathlib.Core.List.{List, [], ◌∷◌}
use lib.ListN.{length, drop, length-drop, drop_of_length-le}
use lib.Seq.{drop-cons, drop-drop}
use lib.IntN.{ℤ}
use lib.Dec.{eqb}
use Rattle.std.specs.Prelude.{Result, Ok, Err}
use Rattle.plane.specs.declared.Point.{Point}
use Rattle.plane.proofs.Bools.{cond-case}
use Rattle.entry.specs.declared.Reason.{Reason}
use Rattle.entry.specs.Refusals.{number_of}
use Rattle.boundaries.specs.Boundary.{is_open, slanted}
use Rattle.records.specs.declared.Treatment.{Treatment}
use Rattle.records.specs.declared.Treatment.TheVariants.{End, Name, Leave, Refer, Layer, Vertices, Unknown, Skip}
use Rattle.records.specs.declared.Record.{Record}
use Rattle.records.specs.Records.{TRUNCATED, head_size, treatment_of, record_of}
use Rattle.records.proofs.Heads.{good-sized}
use Rattle.gdsii.specs.declared.Cursor.{Cursor}
use Rattle.gdsii.specs.Walk.{vertex_size, vertices, Judged, Refused, Over, Passed, Boundary, moved, by_shape, act, by_record, judge, boundary_xy, stopped, walked, before, onward, read_from}
use Rattle.gdsii.specs.Inner.{Ready}
use Rattle.gdsii.proofs.Shapes.{length-vertices}

-- ---- Where a record leaves the cursor

-- of a record of n bytes; a boundary's vertices are in it, closed and not slanted
abbrev Goes : Cursor → (n : ℕ) → Judged → Type 0
Goes c n (Refused k) = Unit {0}
Goes c n (Over f) = Unit {0}
Goes c n (Passed d) = d.at ≡ c.at + n
Goes c n (Boundary vs d) = (d.at ≡ c.at + n) × (head_size + vertex_size * length vs ≤ n) × (is_open vs ≡ false) × (slanted vs ≡ false)

module _ (name : List ℕ) (layer : ℤ) (c : Cursor) (n row : ℕ) (t : List ℕ) (h : head_size ≤ n) where
  shape-goes : (vs : List Point) → head_size + vertex_size * length vs ≤ n → (d : Cursor) → d.at ≡ c.at + n → Goes c n (by_shape vs d)
  shape-goes vs g d p = cond-case (Goes c n) (is_open vs) (λ e. tt) (λ e. cond-case (Goes c n) (slanted vs) (λ f. tt) (λ f. (p, g, e, f)))

  act-goes : (u : Treatment) → Goes c n (act name layer u c n row t)
  act-goes End = tt
  act-goes Name = refl
  act-goes Leave = refl
  act-goes Refer = cond-case (Goes c n) c.reading (λ e. tt) (λ e. refl)
  act-goes Layer = refl
  act-goes Vertices =
      cond-case (Goes c n) (eqb c.row boundary_xy && (c.reading && c.asked)) (λ e. shape-goes (vertices ((n - head_size) / vertex_size) head_size t) (omega (arith, length-vertices ((n - head_size) / vertex_size) head_size t)) (moved c n row c.found c.reading c.asked) refl)
      (λ e. refl)
  act-goes Unknown = tt
  act-goes Skip = refl

-- a cursor ahead of another, by a record that the bytes hold
pub record Ahead (c : Cursor) (t : List ℕ) (d : Cursor) : Type 0 where
  pub least : c.at + head_size ≤ d.at
  pub most : d.at ≤ c.at + length t

module _ (name : List ℕ) (layer : ℤ) (c : Cursor) (t : List ℕ) where
  pub passed-ahead : {d : Cursor} → judge name layer c t ≡ Passed d → Ahead c t d
  unfolding judge
  passed-ahead {d} e = go (record_of c.row t) refl e
    where
      go : (r : Result Record Reason) → record_of c.row t ≡ r → by_record name layer r c t ≡ Passed d → Ahead c t d
      go (Err k) f e = let z : ◌≡◌ {A = ℕ} 0 1 = cc in absurd (omega arith)
      go (Ok r) f e =
          let s = good-sized c.row t f in
          let g : Goes c r.size (Passed d) = subst (Goes c r.size) e (act-goes name layer c r.size r.next t s.least (treatment_of r.kind)) in
          record { least = omega (arith, g, s.least); most = omega (arith, g, s.most) }

  pub boundary-ahead : {vs : List Point} {d : Cursor} → judge name layer c t ≡ Boundary vs d → Ahead c t d × (c.at + head_size + vertex_size * length vs ≤ d.at) × (is_open vs ≡ false) × (slanted vs ≡ false)
  unfolding judge
  boundary-ahead {vs} {d} e = go (record_of c.row t) refl e
    where
      go : (r : Result Record Reason) → record_of c.row t ≡ r → by_record name layer r c t ≡ Boundary vs d → Ahead c t d × (c.at + head_size + vertex_size * length vs ≤ d.at) × (is_open vs ≡ false) × (slanted vs ≡ false)
      go (Err k) f e = let z : ◌≡◌ {A = ℕ} 0 1 = cc in absurd (omega arith)
      go (Ok r) f e =
          let s = good-sized c.row t f in
          let g : Goes c r.size (Boundary vs d) = subst (Goes c r.size) e (act-goes name layer c r.size r.next t s.least (treatment_of r.kind)) in
          (record { least = omega (arith, g.0, s.least); most = omega (arith, g.0, s.most) }, omega (arith, g.0, g.1), g.2, g.3)

  pub judge-unread : {e : Reason} → record_of c.row t ≡ Err e → Refused (number_of e) ≡ judge name layer c t
  unfolding judge
  judge-unread e = rw e

  pub judge-good : {r : Record} → record_of c.row t ≡ Ok r → act name layer (treatment_of r.kind) c r.size r.next t ≡ judge name layer c t
  unfolding judge
  judge-good e = rw e

-- ---- What each record makes of the walk

module _ (name : List ℕ) (layer : ℤ) where
  read-skip : (c : Cursor) (k : ℕ) (t : List ℕ) → read_from name layer c k t ≡ read_from name layer c 0 (drop k t)
  unfolding read_from
  read-skip c zero t = refl
  read-skip c (suc k) [] = refl
  read-skip c (suc k) (b ∷ bs) = read-skip c k bs

  module _ (c : Cursor) (t : List ℕ) (h : c.at < length t) where
    read-record : read_from name layer c 0 (drop c.at t) ≡ onward (judge name layer c (drop c.at t)) c.at (λ d. read_from name layer d (d.at - c.at - 1) (drop (suc c.at) t))
    unfolding read_from
    read-record = rw (drop-cons t c.at 0 h)

    -- from the cursor that a record leads to
    read-on : (d : Cursor) → Ahead c (drop c.at t) d → read_from name layer d (d.at - c.at - 1) (drop (suc c.at) t) ≡ read_from name layer d 0 (drop d.at t)
    read-on d a =
        let e : suc c.at + (d.at - c.at - 1) ≡ d.at = omega (arith, a.least) in
        read-skip d (d.at - c.at - 1) (drop (suc c.at) t) ∙ ap (read_from name layer d 0) (drop-drop (d.at - c.at - 1) (suc c.at) t ∙ ap (λ (m : ℕ). drop m t) e)

    pub read-stops : {k : ℕ} → judge name layer c (drop c.at t) ≡ Refused k → stopped k c.at ≡ read_from name layer c 0 (drop c.at t)
    read-stops e = sym (read-record ∙ rw e)

    pub read-over : {f : Bool} → judge name layer c (drop c.at t) ≡ Over f → walked f [] ≡ read_from name layer c 0 (drop c.at t)
    read-over e = sym (read-record ∙ rw e)

    pub read-passes : {d : Cursor} → judge name layer c (drop c.at t) ≡ Passed d → read_from name layer d 0 (drop d.at t) ≡ read_from name layer c 0 (drop c.at t)
    read-passes {d} e = sym (read-record ∙ rw e (read-on d (passed-ahead name layer c (drop c.at t) e)))

    pub read-outline : {vs : List Point} {d : Cursor} → judge name layer c (drop c.at t) ≡ Boundary vs d → before vs (read_from name layer d 0 (drop d.at t)) ≡ read_from name layer c 0 (drop c.at t)
    read-outline {vs} {d} e = sym (read-record ∙ rw e (ap (before vs) (read-on d (boundary-ahead name layer c (drop c.at t) e).0)))

    -- a boundary that is found is in the stream, and the walk can go on after it
    pub outline-ready : {vs : List Point} {d : Cursor} → judge name layer c (drop c.at t) ≡ Boundary vs d → Ready t c vs d
    outline-ready {vs} {d} e =
        let g = boundary-ahead name layer c (drop c.at t) e in
        record { shut = g.2; square = g.3; ahead = g.1; within = omega (arith, g.0.most, length-drop c.at t) }

  pub read-end : (c : Cursor) (t : List ℕ) → length t ≤ c.at → stopped TRUNCATED c.at ≡ read_from name layer c 0 (drop c.at t)
  unfolding read_from
  read-end c t h = rw (drop_of_length-le t {i = c.at} h)
