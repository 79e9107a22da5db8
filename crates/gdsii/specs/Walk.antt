-- The walk over a stream: each record acted on, skipped or refused, up to ENDLIB, and the boundaries of one layer in the first structure of a name.
use Rattle.std.specs.Prelude.{ℕ, zero, suc, ◌+◌, ◌-◌, ◌/◌, ◌^◌, ◌≤◌, ◌<◌, ◌≡◌, Bool, true, false, cond, ◌&&◌, ◌||◌, not, Result, Ok, Err, List, [], ◌∷◌, length, take, drop, ℤ, eqb}
use Rattle.plane.specs.declared.Point.{Point}
use Rattle.plane.specs.Words.{eq_z}
use Rattle.bigendian.specs.Numbers.{number_at, signed}
use Rattle.entry.specs.declared.Reason.{Reason}
use Rattle.entry.specs.Refusals.{number_of}
use Rattle.boundaries.specs.Boundary.{is_open, slanted}
use Rattle.records.specs.declared.Treatment.{Treatment}
use Rattle.records.specs.declared.Treatment.TheVariants.{End, Name, Leave, Refer, Layer, Vertices, Unknown, Skip}
use Rattle.records.specs.declared.Record.{Record}
use Rattle.records.specs.Records.{TRUNCATED, RECORD, head_size, treatment_of, record_of}
use Rattle.gdsii.specs.declared.Cursor.{Cursor}

-- ---- The refusals of a boundary that is read

-- 14: its list is empty or not closed
abbrev pub OPEN : ℕ
OPEN = 14

-- 15: an edge is neither horizontal nor vertical
abbrev pub SLANTED : ℕ
SLANTED = 15

-- ---- Data

-- the layer in the data of a record that bytes begin with
unfoldable pub layer_in : List ℕ → ℤ
layer_in t = signed (2 ^ 15) (number_at 2 head_size t)

-- how many bytes a vertex has
abbrev pub vertex_size : ℕ
vertex_size = 8

-- the vertex at a place
unfoldable pub vertex_at : List ℕ → (at : ℕ) → Point
vertex_at t at = record { x = signed (2 ^ 31) (number_at 4 at t); y = signed (2 ^ 31) (number_at 4 (at + 4) t) }

-- so many vertices from a place on
unfoldable pub vertices : (n at : ℕ) → List ℕ → List Point
vertices zero at t = []
vertices (suc n) at t = vertex_at t at ∷ vertices n (at + vertex_size) t

-- names compared without padding: they have the same bytes, where each goes on with NULs
unfoldable pub same_name : List ℕ → List ℕ → Bool
same_name [] [] = true
same_name [] (c ∷ cs) = eqb 0 c && same_name [] cs
same_name (b ∷ bs) [] = eqb b 0 && same_name bs []
same_name (b ∷ bs) (c ∷ cs) = eqb b c && same_name bs cs

-- ---- One record

-- the row of the order where BOUNDARY's XY comes
abbrev pub boundary_xy : ℕ
boundary_xy = 32

-- the cursor after a record of n bytes that leads to a row
abbrev pub moved : Cursor → (n row : ℕ) → (found reading asked : Bool) → Cursor
moved c n row found reading asked = record { at = c.at + n; row = row; found = found; reading = reading; asked = asked }

-- what a record at a cursor is: refused, the end, passed, or a boundary that is read
pub data Judged : Type 0 where
  Refused : (number : ℕ) → Judged
  Over : (found : Bool) → Judged
  Passed : (next : Cursor) → Judged
  Boundary : (vertices : List Point) (next : Cursor) → Judged

-- a boundary that is read: OPEN, SLANTED, or its vertices
abbrev pub by_shape : List Point → Cursor → Judged
by_shape vs next = cond (is_open vs) (Refused OPEN) (cond (slanted vs) (Refused SLANTED) (Boundary vs next))

module _ (name : List ℕ) (layer : ℤ) where
  -- a good record of n bytes, the first of t, that leads to a row: acted on, skipped or refused
  abbrev pub act : Treatment → Cursor → (n row : ℕ) → (t : List ℕ) → Judged
  act End c n row t = Over c.found
  act Name c n row t =
      let this : Bool = same_name (take (n - head_size) (drop head_size t)) name in
      Passed (moved c n row (c.found || this) (this && not c.found) false)
  act Leave c n row t = Passed (moved c n row c.found false false)
  act Refer c n row t = cond c.reading (Refused RECORD) (Passed (moved c n row c.found c.reading false))
  act Layer c n row t = Passed (moved c n row c.found c.reading (eq_z (layer_in t) layer))
  act Vertices c n row t =
      let next : Cursor = moved c n row c.found c.reading c.asked in
      cond (eqb c.row boundary_xy && (c.reading && c.asked)) (by_shape (vertices ((n - head_size) / vertex_size) head_size t) next) (Passed next)
  act Unknown c n row t = Refused RECORD
  act Skip c n row t = Passed (moved c n row c.found c.reading c.asked)

  -- a record that is refused by itself, or a good one
  abbrev pub by_record : Result Record Reason → Cursor → List ℕ → Judged
  by_record (Err e) c t = Refused (number_of e)
  by_record (Ok r) c t = act (treatment_of r.kind) c r.size r.next t

  -- the record that bytes begin with, at a cursor
  unfoldable pub judge : Cursor → List ℕ → Judged
  judge c t = by_record (record_of c.row t) c t

-- ---- The walk

-- stopped by a refusal at a file place; or at ENDLIB, with whether the structure was found and the boundaries that were read
pub data Outcome : Type 0 where
  stopped : (number place : ℕ) → Outcome
  walked : (found : Bool) (boundaries : List (List Point)) → Outcome

-- with a boundary before those of the rest
abbrev pub before : List Point → Outcome → Outcome
before vs (stopped k p) = stopped k p
before vs (walked f bs) = walked f (vs ∷ bs)

-- where the walk begins: at the stream's first byte and the order's first row
abbrev pub start : Cursor
start = record { at = 0; row = 1; found = false; reading = false; asked = false }

-- what a record at a file place makes of the walk; `rest` is the walk from a later cursor
abbrev pub onward : Judged → (at : ℕ) (rest : Cursor → Outcome) → Outcome
onward (Refused k) at rest = stopped k at
onward (Over f) at rest = walked f []
onward (Passed c) at rest = rest c
onward (Boundary vs c) at rest = before vs (rest c)

module _ (name : List ℕ) (layer : ℤ) where
  -- from a cursor, whose place comes after so many bytes more; where the bytes end, it is TRUNCATED at the cursor's place
  unfoldable pub read_from : Cursor → (skip : ℕ) → List ℕ → Outcome
  read_from c skip [] = stopped TRUNCATED c.at
  read_from c (suc k) (b ∷ bs) = read_from c k bs
  read_from c zero (b ∷ bs) = onward (judge name layer c (b ∷ bs)) c.at (λ d. read_from d (d.at - c.at - 1) bs)

  -- of a whole stream
  unfoldable pub read_all : List ℕ → Outcome
  read_all t = read_from start 0 t

-- ---- Where the walk comes, and what stops it

-- the cursors that it comes to: the first, and each that a record which is passed or read leads to
pub data Visited (name : List ℕ) (layer : ℤ) (t : List ℕ) : Cursor → Type 0 where
  begin : Visited name layer t start
  pass : {c d : Cursor} → Visited name layer t c → c.at < length t → judge name layer c (drop c.at t) ≡ Passed d → Visited name layer t d
  read : {c d : Cursor} {vs : List Point} → Visited name layer t c → c.at < length t → judge name layer c (drop c.at t) ≡ Boundary vs d → Visited name layer t d

-- it is refused at a cursor: the record there is, or the bytes end where one should start
pub data RefusedAt (name : List ℕ) (layer : ℤ) (t : List ℕ) (c : Cursor) : (number : ℕ) → Type 0 where
  by-record : {k : ℕ} → c.at < length t → judge name layer c (drop c.at t) ≡ Refused k → RefusedAt name layer t c k
  by_end : length t ≤ c.at → RefusedAt name layer t c TRUNCATED
