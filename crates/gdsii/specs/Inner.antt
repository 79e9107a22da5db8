-- What the private functions speak of. No caller needs these definitions.
use Rattle.std.specs.Prelude.{ℕ, suc, ◌+◌, ◌*◌, ◌/◌, ◌≤◌, ◌≡◌, Bool, false, not, cond, ◌&&◌, Option, None, Some, Result, Ok, Err, List, [], ◌∷◌, length, drop, ℤ, ltb, leb}
use Rattle.plane.specs.declared.Point.{Point}
use Rattle.plane.specs.Lists.{put_at}
use Rattle.plane.specs.Words.{most_points, points_of, flat_points, marks, cells}
use Rattle.entry.specs.declared.Reason.{Reason}
use Rattle.entry.specs.declared.Reason.TheVariants.{Open, Slanted}
use Rattle.entry.specs.declared.Refusal.{Refusal}
use Rattle.entry.specs.Refusals.{number_of}
use Rattle.entry.specs.Checks.{Check, whole}
use Rattle.entry.specs.Entry.{Done, Counted}
use Rattle.rule.specs.Rows.{RANGE, ROW, COLUMN, MANY, ROOM}
use Rattle.area.specs.Area.{area_says}
use Rattle.boundaries.specs.Boundary.{edge, horizontal, vertical, is_open, slanted, boundary_corners, handed_on}
use Rattle.boundaries.specs.Inner.{add_capped}
use Rattle.records.specs.Records.{head_size}
use Rattle.gdsii.specs.declared.Cursor.{Cursor}
use Rattle.gdsii.specs.declared.Reader.{Reader}
use Rattle.gdsii.specs.declared.Vertices.{Vertices}
use Rattle.gdsii.specs.declared.Step.{Step}
use Rattle.gdsii.specs.declared.Step.TheVariants.{End, Pass, Read}
use Rattle.gdsii.specs.declared.Gathered.{Gathered}
use Rattle.gdsii.specs.Walk.{vertex_size, vertices, Judged, Refused, Over, Passed, Boundary, Outcome, stopped, walked, before, read_from, read_all}
use Rattle.gdsii.specs.Call.{corners_in, read_checks}

-- ---- The walk of a stream

-- from a cursor on
abbrev pub walk_from : Reader → Cursor → Outcome
walk_from s c = read_from s.name.now s.layer c 0 (drop c.at s.bytes.now)

-- all of it
abbrev pub whole_walk : Reader → Outcome
whole_walk s = read_all s.name.now s.layer s.bytes.now

-- ---- Vertices

-- those that are still to come
unfoldable pub vertices_left : Vertices → List Point
vertices_left v = vertices (length v.bytes.now / vertex_size) 0 v.bytes.now

-- an edge that is neither horizontal nor vertical
abbrev pub is_slanted : Point → Point → Bool
is_slanted p q = not (horizontal (edge p q)) && not (vertical (edge p q))

-- whether the vertices of a boundary are refused
abbrev pub shape_of : List Point → Result (Unit {0}) Reason
shape_of vs = cond (is_open vs) (Err Open) (cond (slanted vs) (Err Slanted) (Ok tt))

-- ---- One record

-- what the step from a cursor tells of the record there
abbrev pub told_step : Cursor → Result Step Reason → Judged
told_step c (Err r) = Refused (number_of r)
told_step c (Ok End) = Over c.found
told_step c (Ok (Pass d)) = Passed d
told_step c (Ok (Read d v)) = Boundary (vertices_left v) d

-- ---- The next boundary

-- the walk that begins where the code found something
abbrev pub resume : Reader → Result (Option Vertices × Cursor) Refusal → Outcome
resume s (Err e) = stopped (number_of e.reason) e.place
resume s (Ok (None, d)) = walked d.found []
resume s (Ok (Some v, d)) = before (vertices_left v) (walk_from s d)

-- a boundary that is found after a cursor is closed and not slanted, its vertices are in the stream, and the walk can go on after it
pub record Ready (t : List ℕ) (c : Cursor) (vs : List Point) (d : Cursor) : Type 0 where
  pub shut : is_open vs ≡ false
  pub square : slanted vs ≡ false
  pub ahead : c.at + head_size + vertex_size * length vs ≤ d.at
  pub within : d.at ≤ length t

-- what the reader finds next can be used: a refusal and no boundary always, and a boundary where it is ready
abbrev pub Usable : Reader → Cursor → Result (Option Vertices × Cursor) Refusal → Type 0
Usable s c (Err e) = Unit {0}
Usable s c (Ok (None, d)) = Unit {0}
Usable s c (Ok (Some v, d)) = Ready s.bytes.now c (vertices_left v) d

-- ---- Corners in an array

-- a point put at place i of an array, if there is such a place
abbrev pub put_point : List ℤ → (i : ℕ) → Point → List ℤ
put_point a i p = put_at a (2 * i) (p.x ∷ p.y ∷ [])

-- points put from place i on, as far as there are places
unfoldable pub put_points : List ℤ → (i : ℕ) → List Point → List ℤ
put_points a i [] = a
put_points a i (p ∷ ps) = put_points (put_point a i p) (suc i) ps

-- ---- What is gathered

-- how many cells points mark, and 0 where they are refused
abbrev pub marked_in : List Point → ℕ
marked_in ps = (area_says ps).count

-- the sum with k corners more after n, if all of these have places
unfoldable pub area_with : (n k area : ℕ) → List Point → ℕ
area_with n k area ps = cond (leb (n + k) most_points) (add_capped area (marked_in ps)) area

-- the sum with boundaries more, whose corners come after n
unfoldable pub area_from : (n area : ℕ) → List (List Point) → ℕ
area_from n area [] = area
area_from n area (vs ∷ bs) = area_from (n + length (boundary_corners vs)) (area_with n (length (boundary_corners vs)) area (boundary_corners vs)) bs

-- what is gathered: stopped by a refusal at a place; or whether the structure was found, how many corners there are, and the sum
pub data Gathering : Type 0 where
  Stopped : (number place : ℕ) → Gathering
  Whole : (found : Bool) (count area : ℕ) → Gathering

-- what the code tells of it
abbrev pub told_gathered : Result Gathered Refusal → Gathering
told_gathered (Err e) = Stopped (number_of e.reason) e.place
told_gathered (Ok g) = Whole g.found g.count g.area

-- what is gathered of the rest of the walk, after n corners
abbrev pub gathered : Outcome → (n area : ℕ) → Gathering
gathered (stopped k p) n area = Stopped k p
gathered (walked f bs) n area = Whole f (n + length (handed_on bs)) (area_from n area bs)

-- the array then: the corners of the rest are put into it after n; where the walk is stopped, only its length is known
abbrev pub Filled : Outcome → (n : ℕ) (a a-after : List ℤ) → Type 0
Filled (stopped k p) n a a-after = length a-after ≡ length a
Filled (walked f bs) n a a-after = a-after ≡ put_points a n (handed_on bs)

-- ---- The call

-- the checks of corners whose boundaries mark so many cells, each counted by itself
unfoldable pub hand_checks : List Point → (area out : ℕ) → List Check
hand_checks ps area out = MANY most_points (length ps) ∷ RANGE ps ∷ ROW ps ∷ COLUMN ps ∷ whole 17 0 (ltb (cells (marks ps)) area) ∷ ROOM (length ps) (out / 2) ∷ []

-- corners are handed on, or refused, as these checks say
abbrev pub HandedOn : (points : List ℤ) (area : ℕ) (out : List ℤ) → Counted → (out-after : List ℤ) → Type 0
HandedOn a area out r out-after = Done (hand_checks (points_of a) area (length out)) (length (points_of a)) a out r out-after

-- what the call answers and writes, of what the walk comes to
abbrev pub ReadSays : Outcome → (out : List ℤ) → Counted → (out-after : List ℤ) → Type 0
ReadSays o out r out-after = Done (read_checks o (length out)) (length (corners_in o)) (flat_points (corners_in o)) out r out-after
