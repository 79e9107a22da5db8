-- What private functions that read boundaries speak of. No caller needs these definitions: the promises are in Boundary.
use Rattle.std.specs.Prelude.{ℕ, ◌+◌, Bool, cond, List, [], ◌∷◌, leb}
use Rattle.std.specs.Bool.{xor}
use Rattle.plane.specs.declared.Point.{Point}
use Rattle.plane.specs.Lists.{keep}
use Rattle.plane.specs.Words.{same, most_cells}
use Rattle.boundaries.specs.Boundary.{edge, vertical}

-- ---- Corners by the directions of edges

-- the corners from a vertex p on, where `d` says whether the last edge of positive length before it is vertical
unfoldable pub corners_by : (d : Bool) → Point → List Point → List Point
corners_by d p [] = []
corners_by d p (q ∷ vs) =
    let stay : List Point = corners_by d q vs in
    let go : List Point = keep (xor d (vertical (edge p q))) p (corners_by (vertical (edge p q)) q vs) in
    cond (same p q) stay go

-- whether the last edge of positive length is vertical; `d`, where there is none
unfoldable pub last_vertical : (d : Bool) → Point → List Point → Bool
last_vertical d p [] = d
last_vertical d p (q ∷ vs) = last_vertical (cond (same p q) d (vertical (edge p q))) q vs

-- ---- The areas of boundaries, added up

-- an area is added only while the sum is at most the cells of the range: so the sum fits 64 bits
unfoldable pub add_capped : (s area : ℕ) → ℕ
add_capped s area = cond (leb s most_cells) (s + area) s
