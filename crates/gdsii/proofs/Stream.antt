-- The walk of a whole stream: the refusal that stops it is the first met, its number and place are among those of document 01, and bytes after ENDLIB
-- do not matter.
use mathlib.Core.Path.{◌≡◌, refl, sym, ap, ◌∙◌, subst}
use mathlib.Core.Logic.{◌≢◌, ◌↔◌, ◌⊎◌, inl, inr}
use Prim.Native.Nat.{ℕ, zero, suc, ◌+◌, ◌-◌, ◌/◌, ◌^◌, ◌≤◌, ◌<◌}
use native.Mathlib.Omega.{arith}
use mathlib.Core.Bool.{Bool, true, false, ◌&&◌}
use mathlib.Core.List.{List, [], ◌∷◌, ◌++◌}
use lib.ListN.{length, take, drop, length-drop, length-append}
use lib.Seq.{take-append-le, drop-append-le}
use lib.IntN.{ℤ}
use lib.Dec.{eqb, ltb}
use borrow.Author.Tests.{ltb-true, ltb-false}
use Rattle.plane.specs.declared.Point.{Point}
use Rattle.plane.proofs.Bools.{cond-case}
use Rattle.bigendian.specs.Numbers.{signed}
use Rattle.bigendian.proofs.Laws.{number_append}
use Rattle.boundaries.specs.Boundary.{is_open, slanted}
use Rattle.std.specs.Prelude.{Result, Ok, Err}
use Rattle.entry.specs.declared.Reason.{Reason}
use Rattle.entry.specs.declared.Reason.TheVariants.{Truncated, Record as Malformed}
use Rattle.entry.specs.Refusals.{number_of}
use Rattle.records.specs.declared.Treatment.{Treatment}
use Rattle.records.specs.declared.Treatment.TheVariants.{End, Name, Leave, Refer, Layer, Vertices, Unknown, Skip}
use Rattle.records.specs.declared.Record.{Record}
use Rattle.records.specs.Records.{TRUNCATED, head_size, treatment_of, record_of}
use Rattle.records.proofs.Heads.{good-sized, unread-reason, layer-sized, record-append}
use Rattle.gdsii.specs.declared.Cursor.{Cursor}
use Rattle.gdsii.specs.Walk.{SLANTED, Judged, Refused, Over, Passed, Boundary, layer_in, vertex_size, vertices, boundary_xy, act, by_record, judge, Outcome, stopped, walked, before, start, read_from, read_all, Visited, begin, pass, read, RefusedAt, by-record, by_end}
use Rattle.gdsii.proofs.Shapes.{vertices-append}
use Rattle.gdsii.proofs.Walk.{passed-ahead, boundary-ahead, judge-unread, judge-good, read-stops, read-over, read-passes, read-outline, read-end}

-- ---- The walk, record by record

-- the walk from a cursor, and what it comes to
data Course (name : List ℕ) (layer : ℤ) (t : List ℕ) : Cursor → Outcome → Type 0 where
  cut_short : {c : Cursor} → length t ≤ c.at → Course name layer t c (stopped TRUNCATED c.at)
  refused : {c : Cursor} {k : ℕ} → c.at < length t → judge name layer c (drop c.at t) ≡ Refused k → Course name layer t c (stopped k c.at)
  ended : {c : Cursor} {f : Bool} → c.at < length t → judge name layer c (drop c.at t) ≡ Over f → Course name layer t c (walked f [])
  passed : {c d : Cursor} {o : Outcome} → c.at < length t → judge name layer c (drop c.at t) ≡ Passed d → Course name layer t d o → Course name layer t c o
  outlined : {c d : Cursor} {vs : List Point} {o : Outcome} → c.at < length t → judge name layer c (drop c.at t) ≡ Boundary vs d → Course name layer t d o → Course name layer t c (before vs o)

module _ (name : List ℕ) (layer : ℤ) (t : List ℕ) where
  -- the walk from a cursor
  abbrev from : Cursor → Outcome
  from c = read_from name layer c 0 (drop c.at t)

  -- every walk has a course, of at most as many records as there are bytes left
  course-by : (n : ℕ) (c : Cursor) → length t - c.at ≤ n → Course name layer t c (from c)
  course-by zero c h = subst (Course name layer t c) (read-end name layer c t (omega arith)) (cut_short (omega arith))
  course-by (suc n) c h = here (ltb c.at (length t)) refl (course-by n)
    where
      go : c.at < length t → ((d : Cursor) → length t - d.at ≤ n → Course name layer t d (from d)) → (j : Judged) → judge name layer c (drop c.at t) ≡ j → Course name layer t c (from c)
      go g on (Refused k) e = subst (Course name layer t c) (read-stops name layer c t g e) (refused g e)
      go g on (Over f) e = subst (Course name layer t c) (read-over name layer c t g e) (ended g e)
      go g on (Passed d) e =
          let a = passed-ahead name layer c (drop c.at t) e in
          subst (Course name layer t c) (read-passes name layer c t g e) (passed g e (on d (omega (arith, a.least))))
      go g on (Boundary vs d) e =
          let a = (boundary-ahead name layer c (drop c.at t) e).0 in
          subst (Course name layer t c) (read-outline name layer c t g e) (outlined g e (on d (omega (arith, a.least))))

      here : (b : Bool) → ltb c.at (length t) ≡ b → ((d : Cursor) → length t - d.at ≤ n → Course name layer t d (from d)) → Course name layer t c (from c)
      here true e on = go (ltb-true c.at (length t) e) on (judge name layer c (drop c.at t)) refl
      here false e on = let g = ltb-false c.at (length t) e in subst (Course name layer t c) (read-end name layer c t g) (cut_short g)

  -- and so has the whole one
  course : Course name layer t start (read_all name layer t)
  unfolding read_all
  course = course-by (length t) start (omega arith)

  -- a course tells what the walk comes to
  course-tells : {c : Cursor} {o : Outcome} → Course name layer t c o → o ≡ from c
  course-tells (cut_short {c} h) = read-end name layer c t h
  course-tells (refused {c} h e) = read-stops name layer c t h e
  course-tells (ended {c} h e) = read-over name layer c t h e
  course-tells (passed {c} h e r) = course-tells r ∙ read-passes name layer c t h e
  course-tells (outlined {c} {vs = vs} h e r) = ap (before vs) (course-tells r) ∙ read-outline name layer c t h e

-- ---- The first met wins

module _ (name : List ℕ) (layer : ℤ) (t : List ℕ) where
  -- no cursor that the walk comes to is past the bytes
  reached-within : {c : Cursor} → Visited name layer t c → c.at ≤ length t
  reached-within begin = omega arith
  reached-within (pass {c} r h e) = let a = passed-ahead name layer c (drop c.at t) e in omega (arith, a.most, length-drop c.at t)
  reached-within (read {c} r h e) = let a = (boundary-ahead name layer c (drop c.at t) e).0 in omega (arith, a.most, length-drop c.at t)

  -- what the walk comes to, by the cursor where it stops or ends
  abbrev EndsIn : Outcome → Type 0
  EndsIn (stopped k p) = (c : Cursor) × Visited name layer t c × (c.at ≡ p) × RefusedAt name layer t c k
  EndsIn (walked f bs) = (c : Cursor) × Visited name layer t c × (c.at < length t) × (judge name layer c (drop c.at t) ≡ Over f)

  ends-before : (vs : List Point) (o : Outcome) → EndsIn o → EndsIn (before vs o)
  ends-before vs (stopped k p) e = e
  ends-before vs (walked f bs) e = e

  ends-in : {c : Cursor} {o : Outcome} → Visited name layer t c → Course name layer t c o → EndsIn o
  ends-in r (cut_short {c} h) = (c, r, refl, by_end h)
  ends-in r (refused {c} h e) = (c, r, refl, by-record h e)
  ends-in r (ended {c} h e) = (c, r, h, e)
  ends-in r (passed h e w) = ends-in (pass r h e) w
  ends-in r (outlined {vs = vs} {o = o} h e w) = ends-before vs o (ends-in (read r h e) w)

  -- what is true of the walk from a cursor that it comes to, whatever boundaries were read before, is true of the whole walk
  from-reached : (P : Outcome → Type 0) → ((vs : List Point) (o : Outcome) → P o → P (before vs o)) → {c : Cursor} → Visited name layer t c → P (from name layer t c) → P (read_all name layer t)
  unfolding read_all
  from-reached P more begin h = h
  from-reached P more (pass {c} {d} r g e) h = from-reached P more r (subst P (read-passes name layer c t g e) h)
  from-reached P more (read {c} {d} {vs} r g e) h = from-reached P more r (subst P (read-outline name layer c t g e) (more vs (from name layer t d) h))

  -- THE FIRST MET WINS: the walk stops with a refusal at a place exactly when, after records that are all passed or read, it comes there and is refused
  pub stopped-exactly : (k p : ℕ) → (read_all name layer t ≡ stopped k p) ↔ ((c : Cursor) × Visited name layer t c × (c.at ≡ p) × RefusedAt name layer t c k)
  stopped-exactly k p = (λ e. subst EndsIn e (ends-in begin (course name layer t)), λ r. from-reached (λ o. o ≡ stopped k p) (λ vs o e. ap (before vs) e) r.1 (go r.0 r.3 ∙ ap (stopped k) r.2))
    where
      go : (c : Cursor) {n : ℕ} → RefusedAt name layer t c n → from name layer t c ≡ stopped n c.at
      go c (by-record h e) = sym (read-stops name layer c t h e)
      go c (by_end h) = sym (read-end name layer c t h)

  -- and it ends exactly when, after such records, it comes to ENDLIB
  pub ended-exactly : (f : Bool) → ((bs : List (List Point)) × (read_all name layer t ≡ walked f bs)) ↔ ((c : Cursor) × Visited name layer t c × (c.at < length t) × (judge name layer c (drop c.at t) ≡ Over f))
  ended-exactly f = (
    λ r. subst EndsIn r.1 (ends-in begin (course name layer t)),
    λ r. from-reached (λ o. (bs : List (List Point)) × (o ≡ walked f bs)) (λ vs o e. (vs ∷ e.0, ap (before vs) e.1)) r.1 ([], sym (read-over name layer r.0 t r.2 r.3)),
  )

-- ---- The numbers and the places

-- a record is refused with TRUNCATED, RECORD, OPEN or SLANTED
abbrev Numbered : Judged → Type 0
Numbered (Refused k) = (TRUNCATED ≤ k) × (k ≤ SLANTED)
Numbered (Over f) = Unit {0}
Numbered (Passed d) = Unit {0}
Numbered (Boundary vs d) = Unit {0}

module _ (name : List ℕ) (layer : ℤ) where
  act-numbered : (c : Cursor) (n row : ℕ) (t : List ℕ) (u : Treatment) → Numbered (act name layer u c n row t)
  act-numbered c n row t End = tt
  act-numbered c n row t Name = tt
  act-numbered c n row t Leave = tt
  act-numbered c n row t Refer = cond-case Numbered c.reading (λ _. omega arith) (λ _. tt)
  act-numbered c n row t Layer = tt
  act-numbered c n row t Vertices =
      let vs : List Point = vertices ((n - head_size) / vertex_size) head_size t in
      cond-case Numbered (eqb c.row boundary_xy && (c.reading && c.asked)) (λ _. cond-case Numbered (is_open vs) (λ _. omega arith) (λ _. cond-case Numbered (slanted vs) (λ _. omega arith) (λ _. tt))) (λ _. tt)
  act-numbered c n row t Unknown = omega arith
  act-numbered c n row t Skip = tt

  judge-numbered : (c : Cursor) (t : List ℕ) → Numbered (judge name layer c t)
  unfolding judge
  judge-numbered c t = go (record_of c.row t) refl
    where
      one : (e : Reason) → (e ≡ Truncated) ⊎ (e ≡ Malformed) → (TRUNCATED ≤ number_of e) × (number_of e ≤ SLANTED)
      one e (inl d) = rw d (omega arith)
      one e (inr d) = rw d (omega arith)

      go : (r : Result Record Reason) → record_of c.row t ≡ r → Numbered (by_record name layer r c t)
      go (Err e) d = one e (unread-reason c.row t d)
      go (Ok r) d = act-numbered c r.size r.next t (treatment_of r.kind)

  module _ (t : List ℕ) {k p : ℕ} (e : read_all name layer t ≡ stopped k p) where
    -- the walk stops with TRUNCATED, RECORD, OPEN or SLANTED, from 12 to 15
    pub fault-number : (TRUNCATED ≤ k) × (k ≤ SLANTED)
    fault-number = go ((stopped-exactly name layer t k p).0 e).3
      where
        go : {c : Cursor} {k : ℕ} → RefusedAt name layer t c k → (TRUNCATED ≤ k) × (k ≤ SLANTED)
        go (by-record {k} h d) = subst Numbered d (judge-numbered _ _)
        go (by_end h) = omega arith

    -- at a place in the stream, or at its end
    pub place-within : p ≤ length t
    place-within = let r = (stopped-exactly name layer t k p).0 e in omega (arith, reached-within name layer t r.1, r.2)

-- ---- Bytes that are added after a record, and after ENDLIB

module _ (t more : List ℕ) where
  -- what a record's data say stands in the record
  layer-append : head_size + 2 ≤ length t → layer_in (t ++ more) ≡ layer_in t
  unfolding layer_in
  layer-append h = ap (signed (2 ^ 15)) (number_append 2 head_size t more h)

  data-append : (n : ℕ) → head_size ≤ n → n ≤ length t → take (n - head_size) (drop head_size (t ++ more)) ≡ take (n - head_size) (drop head_size t)
  data-append n g h = ap (take (n - head_size)) (drop-append-le head_size t more (omega arith)) ∙ take-append-le (n - head_size) (drop head_size t) more (omega (arith, length-drop head_size t))

-- a record is not TRUNCATED
abbrev Uncut : Judged → Type 0
Uncut (Refused k) = k ≢ TRUNCATED
Uncut (Over f) = Unit {0}
Uncut (Passed d) = Unit {0}
Uncut (Boundary vs d) = Unit {0}

module _ (name : List ℕ) (layer : ℤ) (c : Cursor) (t more : List ℕ) where
  act-append : (n row : ℕ) (u : Treatment) → head_size ≤ n → n ≤ length t → (u ≡ Layer → head_size + 2 ≤ n) → act name layer u c n row (t ++ more) ≡ act name layer u c n row t
  act-append n row End g h l = refl
  act-append n row Name g h l = rw (data-append t more n g h)
  act-append n row Leave g h l = refl
  act-append n row Refer g h l = refl
  act-append n row Layer g h l = let s = l refl in rw (layer-append t more (omega arith))
  act-append n row Vertices g h l = rw (vertices-append t more ((n - head_size) / vertex_size) head_size (omega arith))
  act-append n row Unknown g h l = refl
  act-append n row Skip g h l = refl

  judge-append : {j : Judged} → judge name layer c t ≡ j → Uncut j → judge name layer c (t ++ more) ≡ j
  judge-append {j} e s = go (record_of c.row t) refl
    where
      go : (r : Result Record Reason) → record_of c.row t ≡ r → judge name layer c (t ++ more) ≡ j
      go (Err k) d =
          let f : judge name layer c t ≡ Refused (number_of k) = sym (judge-unread name layer c t d) in
          let n : number_of k ≢ TRUNCATED = subst Uncut (sym e ∙ f) s in
          sym (judge-unread name layer c (t ++ more) (record-append t more c.row d (λ i. let d : k ≡ Truncated = cc in n (ap number_of d)))) ∙ sym f ∙ e
      go (Ok r) d =
          let z = good-sized c.row t d in
          sym (judge-good name layer c (t ++ more) (record-append t more c.row d (λ i. let z : ◌≡◌ {A = ℕ} 0 1 = cc in absurd (omega arith))))
          ∙ act-append r.size r.next (treatment_of r.kind) z.least z.most (layer-sized c.row t d)
          ∙ judge-good name layer c t d
          ∙ e

-- what the walk came to is not TRUNCATED
abbrev Settled : Outcome → Type 0
Settled (stopped k p) = k ≢ TRUNCATED
Settled (walked f bs) = Unit {0}

settled-rest : (vs : List Point) (o : Outcome) → Settled (before vs o) → Settled o
settled-rest vs (stopped k p) s = s
settled-rest vs (walked f bs) s = s

module _ (name : List ℕ) (layer : ℤ) (t : List ℕ) where
  module _ (more : List ℕ) where
    -- the course of a walk that is not TRUNCATED stays
    longer : {i : ℕ} → i < length t → i < length (t ++ more)
    longer h = omega (arith, length-append t more)

    record-stays : (c : Cursor) → c.at < length t → {j : Judged} → judge name layer c (drop c.at t) ≡ j → Uncut j → judge name layer c (drop c.at (t ++ more)) ≡ j
    record-stays c h e s = ap (judge name layer c) (drop-append-le c.at t more (omega arith)) ∙ judge-append name layer c (drop c.at t) more e s

    course-stays : {c : Cursor} {o : Outcome} → Course name layer t c o → Settled o → Course name layer (t ++ more) c o
    course-stays (cut_short h) s = absurd (s refl)
    course-stays (refused {c} h e) s = refused (longer h) (record-stays c h e s)
    course-stays (ended {c} h e) s = ended (longer h) (record-stays c h e tt)
    course-stays (passed {c} h e w) s = passed (longer h) (record-stays c h e tt) (course-stays w s)
    course-stays (outlined {c} {vs = vs} {o = o} h e w) s = outlined (longer h) (record-stays c h e tt) (course-stays w (settled-rest vs o s))

    walk-stays : Settled (read_all name layer t) → read_all name layer (t ++ more) ≡ read_all name layer t
    unfolding read_all
    walk-stays s = sym (course-tells name layer (t ++ more) (course-stays (course name layer t) s))

  -- BYTES AFTER ENDLIB DO NOT MATTER
  pub after-end : {f : Bool} {bs : List (List Point)} → read_all name layer t ≡ walked f bs → (more : List ℕ) → read_all name layer (t ++ more) ≡ walked f bs
  after-end e more = walk-stays more (subst Settled (sym e) tt) ∙ e

  -- streams that agree up to ENDLIB, both beginning with one whose walk ends, have equal walks
  pub same-to-end : {f : Bool} {bs : List (List Point)} → read_all name layer t ≡ walked f bs → (u v : List ℕ) → read_all name layer (t ++ u) ≡ read_all name layer (t ++ v)
  same-to-end e u v = after-end e u ∙ sym (after-end e v)

  -- nor do bytes after a refusal other than TRUNCATED
  pub after-fault : {k p : ℕ} → read_all name layer t ≡ stopped k p → k ≢ TRUNCATED → (more : List ℕ) → read_all name layer (t ++ more) ≡ stopped k p
  after-fault e n more = walk-stays more (subst Settled (sym e) n) ∙ e
