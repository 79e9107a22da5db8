-- A boundary, as document 01 has it: its list of vertices as the stream has it, when the list is open or slanted, the cells that it marks, and its
-- corners; and of all boundaries read, the corners handed on and when two of them mark one cell.
use Rattle.std.specs.Prelude.{ℕ, Bool, true, not, ◌&&◌, ◌||◌, List, [], ◌∷◌, ◌++◌, ℤ, ltb}
use Rattle.std.specs.Int.Signed.{le_z, lt_z}
use Rattle.plane.specs.declared.Point.{Point}
use Rattle.plane.specs.Lists.{any, count, odd, keep}
use Rattle.plane.specs.Words.{origin, eq_z, same, cells}

-- ---- Edges

-- an edge: from one vertex to the next
pub record Edge : Type 0 where
  pub from : Point
  pub to : Point

-- the edge from p to q
abbrev pub edge : Point → Point → Edge
edge p q = record { from = p; to = q }

-- an XY list runs along the path: an edge from each vertex to the next
unfoldable pub edges_of : List Point → List Edge
edges_of [] = []
edges_of (p ∷ []) = []
edges_of (p ∷ q ∷ vs) = edge p q ∷ edges_of (q ∷ vs)

-- both ends are on one row
unfoldable pub horizontal : Edge → Bool
horizontal e = eq_z e.from.y e.to.y

-- both ends are in one column
unfoldable pub vertical : Edge → Bool
vertical e = eq_z e.from.x e.to.x

-- SLANTED: an edge is neither horizontal nor vertical
unfoldable pub slanted : List Point → Bool
slanted vs = any (λ e. not (horizontal e) && not (vertical e)) (edges_of vs)

-- the last vertex; p, where there is none
unfoldable pub last_or : Point → List Point → Point
last_or p [] = p
last_or p (q ∷ vs) = last_or q vs

-- OPEN: the list is empty, or its last vertex does not equal its first
unfoldable pub is_open : List Point → Bool
is_open [] = true
is_open (p ∷ vs) = not (same (last_or p vs) p)

-- ---- The cells that a boundary marks: the even-odd rule

-- the row b of cells lies between the ends of an edge
unfoldable pub spans : (b : ℤ) → Edge → Bool
spans b e = (le_z e.from.y b && lt_z b e.to.y) || (le_z e.to.y b && lt_z b e.from.y)

-- a ray from the cell (a, b) to the left meets an edge: it is vertical, not right of the cell, and spans the cell's row
unfoldable pub meets : (a b : ℤ) → Edge → Bool
meets a b e = vertical e && (le_z e.from.x a && spans b e)

-- a boundary marks the cell: the ray meets an odd number of its edges
unfoldable pub inside : (a b : ℤ) → List Point → Bool
inside a b vs = odd (meets a b) (edges_of vs)

-- ---- Corners

-- vertices that come after p, without those that equal the one before
unfoldable pub merged_after : Point → List Point → List Point
merged_after p [] = []
merged_after p (q ∷ vs) = keep (not (same p q)) q (merged_after q vs)

-- equal neighbours count as one vertex
unfoldable pub merged : List Point → List Point
merged [] = []
merged (p ∷ vs) = p ∷ merged_after p vs

-- of two edges that meet at a vertex, one is horizontal and one vertical
unfoldable pub turns : Edge → Edge → Bool
turns e f = (horizontal e && vertical f) || (vertical e && horizontal f)

-- the corners among vertices that come after p, in their order; the last vertex is the closing one, and counts as the first
unfoldable pub corners_after : Point → List Point → List Point
corners_after p [] = []
corners_after p (q ∷ []) = []
corners_after p (q ∷ r ∷ vs) = keep (turns (edge p q) (edge q r)) q (corners_after q (r ∷ vs))

-- the vertex before the last of those that come after p
unfoldable pub before_last : Point → List Point → Point
before_last p [] = p
before_last p (q ∷ []) = p
before_last p (q ∷ r ∷ vs) = before_last q (r ∷ vs)

-- the corners of a boundary in file order: before the first vertex comes the one before the closing one
unfoldable pub boundary_corners : List Point → List Point
boundary_corners vs = corners_after (before_last origin (merged vs)) (merged vs)

-- ---- All boundaries that are read

-- the corners handed on, boundary after boundary
unfoldable pub handed_on : List (List Point) → List Point
handed_on [] = []
handed_on (vs ∷ bs) = boundary_corners vs ++ handed_on bs

-- how many boundaries mark the cell
unfoldable pub markers : List (List Point) → (a b : ℤ) → ℕ
markers bs a b = count (inside a b) bs

-- OVERLAP: two boundaries mark one cell. Cells of the range are counted: where all corners are in range, no other cell is marked
unfoldable pub overlaps : List (List Point) → Bool
overlaps bs = ltb 0 (cells (λ a b. ltb 1 (markers bs a b)))
