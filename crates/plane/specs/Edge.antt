-- The edge, as request 1 of document 02 has it: on each row the points by rising x in pairs, the distances added, and the same by columns;
-- and the unit sides that it is the number of.
use Rattle.std.specs.Prelude.{ℕ, ◌+◌, Bool, List, [], ◌∷◌, map, ℤ, nat_abs, ◌-ℤ◌}
use Rattle.std.specs.Bool.{xor}
use Rattle.std.proofs.Math.IntN.{pred_ℤ}
use Rattle.std.specs.Int.Signed.{lt_z}
use Rattle.plane.specs.declared.Point.{Point}
use Rattle.plane.specs.Lists.{sum, only}
use Rattle.plane.specs.Words.{eq_z, different, low_end, range_size, cells_from}
use Rattle.plane.specs.Sorted.{sorted_by}

-- ---- The numbers of a line

-- in pairs, the first and second, the third and fourth and so on: the distances added
unfoldable pub pairs : List ℤ → ℕ
pairs [] = 0
pairs (a ∷ []) = 0
pairs (a ∷ b ∷ rest) = nat_abs (b -ℤ a) + pairs rest

-- the same by rising; one that stands twice stands beside itself
unfoldable pub in_pairs : List ℤ → ℕ
in_pairs zs = pairs (sorted_by lt_z zs)

-- the numbers of line k: of the points that are at k across it, where each is along it
unfoldable pub line : (across along : Point → ℤ) (k : ℤ) → List Point → List ℤ
line across along k ps = map along (only (λ p. eq_z (across p) k) ps)

-- on each line its numbers by rising in pairs, over all different lines
unfoldable pub line_edge : (across along : Point → ℤ) → List Point → ℕ
line_edge across along ps = sum (λ k. in_pairs (line across along k ps)) (different (map across ps))

-- ---- The edge

-- where a point is along a row
abbrev pub x_of : Point → ℤ
x_of p = p.x

-- where it is along a column
abbrev pub y_of : Point → ℤ
y_of p = p.y

-- on each row the points by rising x in pairs, the distances added, and the same by columns
unfoldable pub edge_length : List Point → ℕ
edge_length ps = line_edge y_of x_of ps + line_edge x_of y_of ps

-- ---- Unit sides: each is the lower or the left side of one cell

-- that between the cells (a, b - 1) and (a, b) counts: exactly one of the two passes a test
unfoldable pub lower_side : (ℤ → ℤ → Bool) → (a b : ℤ) → Bool
lower_side t a b = xor (t a (pred_ℤ b)) (t a b)

-- that between the cells (a - 1, b) and (a, b) counts: exactly one of the two passes
unfoldable pub left_side : (ℤ → ℤ → Bool) → (a b : ℤ) → Bool
left_side t a b = xor (t (pred_ℤ a) b) (t a b)

-- how many unit sides count, with a and b in the range: the sides of its cells, the far ones included
unfoldable pub unit_sides : (ℤ → ℤ → Bool) → ℕ
unit_sides t = cells_from low_end (range_size + 1) (lower_side t) + cells_from low_end (range_size + 1) (left_side t)
