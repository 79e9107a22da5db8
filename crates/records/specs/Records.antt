-- One record of a stream: where it is cut, malformed or whole; how each type is treated; and what it is where the format's order stands at a row.
use Rattle.std.specs.Prelude.{ℕ, ◌-◌, ◌%◌, Bool, cond, ◌&&◌, ◌||◌, not, List, length, get_or, eqb, leb, ltb, Result, Ok, Err}
use Rattle.plane.specs.Lists.{any}
use Rattle.bigendian.specs.Numbers.{number_at}
use Rattle.entry.specs.declared.Reason.{Reason}
use Rattle.entry.specs.declared.Reason.TheVariants.{Truncated, Record as Malformed}
use Rattle.entry.specs.Refusals.{number_of}
use Rattle.records.specs.declared.Head.{Head}
use Rattle.records.specs.declared.Treatment.{Treatment}
use Rattle.records.specs.declared.Treatment.TheVariants.{End, Name, Leave, Refer, Layer, Vertices, Unknown, Skip}
use Rattle.records.specs.declared.Record.{Record}
use Rattle.records.specs.Format.{table, fits, follow, ENDLIB, STRNAME, ENDSTR, PATH, AREF, LAYER, XY}

-- ---- The refusals of a record

-- 12: the bytes end before ENDLIB, or inside a record or its head
abbrev pub TRUNCATED : ℕ
TRUNCATED = number_of Truncated

-- 13: malformed, unknown, path or reference
abbrev pub RECORD : ℕ
RECORD = number_of Malformed

-- ---- A record's head

-- how many bytes it has: a two-byte length that counts itself, a type byte, a data-type byte
abbrev pub head_size : ℕ
head_size = 4

-- the length that bytes begin with
abbrev pub size_of : List ℕ → ℕ
size_of t = number_at 2 0 t

-- TRUNCATED where the bytes end inside the record or its head, RECORD where its length is odd or under 4, or its length, type and data-type byte
unfoldable pub head_of : List ℕ → Result Head Reason
head_of t =
    cond (ltb (length t) head_size) (Err Truncated)
    (cond (ltb (length t) (size_of t)) (Err Truncated)
    (cond (not (eqb (size_of t % 2) 0) || ltb (size_of t) head_size) (Err Malformed)
    (Ok (record { size = size_of t; kind = get_or t 2 0; form = get_or t 3 0 }))))

-- ---- How a type is treated

-- a type of the record table
unfoldable pub known : ℕ → Bool
known t = any (λ k. eqb k.type t) table

-- known types are acted on, among them the three of paths and references, or skipped
unfoldable pub treatment_of : ℕ → Treatment
treatment_of t =
    cond (eqb t ENDLIB) End
    (cond (eqb t STRNAME) Name
    (cond (eqb t ENDSTR) Leave
    (cond (leb PATH t && leb t AREF) Refer
    (cond (eqb t LAYER) Layer
    (cond (eqb t XY) Vertices
    (cond (known t) Skip Unknown))))))

-- ---- A record in the order

-- where the order allows it, it leads to a row
abbrev pub by_row : (row n k : ℕ) → Result Record Reason
by_row row n k = cond (eqb row 0) (Err Malformed) (Ok (record { size = n; kind = k; next = row }))

-- TRUNCATED, or RECORD, or its length, its type and the row that it leads to
abbrev pub by_head : Result Head Reason → (row : ℕ) → Result Record Reason
by_head (Err e) row = Err e
by_head (Ok h) row = cond (fits h.kind h.form (h.size - head_size)) (by_row (follow row h.kind) h.size h.kind) (Err Malformed)

-- the record that bytes begin with, where the order stands at a row
unfoldable pub record_of : (row : ℕ) → List ℕ → Result Record Reason
record_of row t = by_head (head_of t) row
