-- What reading a stream checks, answers and leaves.
use Rattle.std.specs.Prelude.{ℕ, ◌*◌, ◌/◌, ◌≤◌, ◌≡◌, Bool, true, false, not, length, replicate, ℤ, pos}
use mathlib.Core.List.{List, [], ◌∷◌, Memᴰ as In}
use Rattle.plane.specs.declared.Point.{Point}
use Rattle.plane.specs.Words.{most_points, flat_points, point_in_range}
use Rattle.entry.specs.Checks.{Verdict, refused, Check, whole, met}
use Rattle.entry.specs.Entry.{Done, Counted}
use Rattle.rule.specs.Rows.{MANY, RANGE, ROOM}
use Rattle.boundaries.specs.Boundary.{handed_on, markers, overlaps}
use Rattle.records.specs.Records.{TRUNCATED, RECORD}
use Rattle.gdsii.specs.Walk.{OPEN, SLANTED, Outcome, stopped, walked, read_all}

-- ---- What the walk comes to

-- the refusal that stopped it, if one did
abbrev pub fault_in : Outcome → List Verdict
fault_in (stopped k p) = refused k p ∷ []
fault_in (walked f bs) = []

-- whether it found the structure
abbrev pub found_in : Outcome → Bool
found_in (stopped k p) = false
found_in (walked f bs) = f

-- the boundaries that it read
abbrev pub boundaries_in : Outcome → List (List Point)
boundaries_in (stopped k p) = []
boundaries_in (walked f bs) = bs

-- their corners, in file order
abbrev pub corners_in : Outcome → List Point
corners_in o = handed_on (boundaries_in o)

-- ---- The rows

-- 16 ABSENT: no structure has the name
abbrev pub ABSENT : (found : Bool) → Check
ABSENT found = whole 16 0 (not found)

-- 17 OVERLAP: two boundaries mark one cell
abbrev pub OVERLAP : List (List Point) → Check
OVERLAP bs = whole 17 0 (overlaps bs)

-- ---- The call

-- TRUNCATED, RECORD, OPEN and SLANTED, the first met winning; then ABSENT, MANY, RANGE, OVERLAP and ROOM
unfoldable pub read_checks : Outcome → (out : ℕ) → List Check
read_checks o out = met (fault_in o) ∷ ABSENT (found_in o) ∷ MANY most_points (length (corners_in o)) ∷ RANGE (corners_in o) ∷ OVERLAP (boundaries_in o) ∷ ROOM (length (corners_in o)) (out / 2) ∷ []

-- the numbers of the first four
abbrev pub fault_numbers : List ℕ
fault_numbers = TRUNCATED ∷ RECORD ∷ OPEN ∷ SLANTED ∷ []

-- what is accepted: the structure is found, and its boundaries on the layer have few enough corners, all in range, no cell in common, and room
pub record ReadAccepted (o : Outcome) (out : ℕ) : Type 0 where
  pub found : o ≡ walked true (boundaries_in o)
  pub few : length (corners_in o) ≤ most_points
  pub range : (p : Point) → In p (corners_in o) → point_in_range p ≡ true
  pub apart : overlaps (boundaries_in o) ≡ false
  pub room : length (corners_in o) ≤ out / 2

-- what OVERLAP is given for: the structure was found, its corners are few enough and in range, and two boundaries mark one cell
pub record Overlapping (o : Outcome) : Type 0 where
  pub found : o ≡ walked true (boundaries_in o)
  pub few : length (corners_in o) ≤ most_points
  pub range : (p : Point) → In p (corners_in o) → point_in_range p ≡ true
  pub twice : (a : ℤ) × (b : ℤ) × (2 ≤ markers (boundaries_in o) a b)

-- how many numbers the scratch array has: two for each of the most corners
abbrev pub scratch_size : ℕ
scratch_size = 2 * most_points

-- the answer, the corners written to the output, and the scratch array, which holds zeros afterwards
pub record ReadDone (t name : List ℕ) (layer : ℤ) (out : List ℤ) (r : Counted) (scratch_after out-after : List ℤ) : Type 0 where
  pub done : Done (read_checks (read_all name layer t) (length out)) (length (corners_in (read_all name layer t))) (flat_points (corners_in (read_all name layer t))) out r out-after
  pub scratch : scratch_after ≡ replicate scratch_size (pos 0)
