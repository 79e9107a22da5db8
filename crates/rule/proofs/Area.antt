-- The area reported is the number of marked cells, at most 4·10^18. The edge reported is the number of unit sides with a marked cell on exactly one
-- side, at most 2·10^9 for each point; for one rectangle it is 2·(W+H), and for any list at most the sum of these.
use mathlib.Core.Path.{◌≡◌, refl, sym, ap, fun_ext, ◌∙◌}
use Prim.Native.Nat.{◌*◌, ◌≤◌}
use native.Mathlib.Omega.{arith}
use mathlib.Core.Bool.{Bool, true, false}
use mathlib.Core.List.Memᴰ.{head}
use mathlib.Core.List.{List, [], ◌∷◌}
use lib.ListN.{length}
use lib.IntN.{ℤ}
use lib.Signed.{le_z, lt_z}
use Rattle.plane.specs.declared.Point.{Point}
use Rattle.plane.specs.declared.Rect.{Rect}
use Rattle.plane.specs.Lists.{bit, odd, sum}
use Rattle.plane.specs.Words.{low_end, high_end, range_size, in_range, area_of, edge_of, marks, holds, cells}
use Rattle.plane.specs.Edge.{edge_length, lower_side, left_side, unit_sides}
use Rattle.plane.proofs.Bools.{xor-false, is_odd}
use Rattle.plane.proofs.Sums.{sum-cong, count-sum}
use Rattle.plane.proofs.Parity.{odd-sum}
use Rattle.plane.proofs.Grid.{cells-areas, cells-most}
use Rattle.plane.proofs.Edge.{edge-counts, edge-most, marked-inside, lower-inside, left-inside}
use Rattle.plane.proofs.Sides.{sides-hold, sides-odd}
use Rattle.rule.specs.Rule.{rule_list}
use Rattle.rule.specs.Rows.{Accepted}
use Rattle.rule.proofs.Cover.{rule-covers}
use Rattle.rule.proofs.Rising.{rule-rects}
use Rattle.rule.proofs.Remaining.{accepted-balanced}

-- ---- The area

-- the sum of W · H is the number of marked cells of the range
pub rule-area : (ps : List Point) → Accepted ps → sum area_of (rule_list ps) ≡ cells (marks ps)
rule-area ps acc = cells-areas (rule_list ps) (marks ps) (rule-rects ps acc).solid (rule-rects ps acc).range (rule-covers ps acc)

-- no cell out of the range is marked
pub marked-in-range : (ps : List Point) → Accepted ps → (a b : ℤ) → marks ps a b ≡ true → ((le_z low_end a ≡ true) × (lt_z a high_end ≡ true)) × ((le_z low_end b ≡ true) × (lt_z b high_end ≡ true))
marked-in-range ps acc = marked-inside ps (accepted-balanced acc)

-- at most 4·10^18
pub rule-area-most : (ps : List Point) → Accepted ps → sum area_of (rule_list ps) ≤ 4_000_000_000_000_000_000
rule-area-most ps acc = rw (rule-area ps acc) (cells-most (marks ps))

-- ---- The edge

-- it is the number of unit sides with a marked cell on exactly one side
pub rule-edge : (ps : List Point) → Accepted ps → edge_length ps ≡ unit_sides (marks ps)
rule-edge ps acc = edge-counts ps (accepted-balanced acc)

-- and of those that are not counted none has a marked cell on exactly one side
pub sides-in-range : (ps : List Point) → Accepted ps → (a b : ℤ) → (lower_side (marks ps) a b ≡ true → (in_range a ≡ true) × (in_range b ≡ true)) × (left_side (marks ps) a b ≡ true → (in_range a ≡ true) × (in_range b ≡ true))
sides-in-range ps acc a b = let h = accepted-balanced acc in (lower-inside ps h a b, left-inside ps h a b)

-- at most 2·10^9 for each point
pub rule-edge-most : (ps : List Point) → Accepted ps → edge_length ps ≤ length ps * range_size
rule-edge-most ps acc = edge-most ps (accepted-balanced acc)

-- a cell is marked just if an odd number of the list's rectangles hold it
marks-held : (ps : List Point) → Accepted ps → (λ a b. odd (holds a b) (rule_list ps)) ≡ marks ps
unfolding is_odd
marks-held ps acc = fun_ext (λ a. fun_ext (λ b. odd-sum (holds a b) (rule_list ps) ∙ ap is_odd (sym (count-sum (holds a b) (rule_list ps)) ∙ rule-covers ps acc a b) ∙ bit-odd (marks ps a b)))
  where
    bit-odd : (t : Bool) → is_odd (bit t) ≡ t
    bit-odd true = refl
    bit-odd false = refl

-- so it is at most the sum of 2·(W+H) over the list: the seams, where two rectangles abut, do not count
pub rule-edge-seams : (ps : List Point) → Accepted ps → edge_length ps ≤ sum edge_of (rule_list ps)
rule-edge-seams ps acc =
    let e : unit_sides (λ a b. odd (holds a b) (rule_list ps)) ≡ edge_length ps = ap unit_sides (marks-held ps acc) ∙ sym (rule-edge ps acc) in
    let s : sum (λ r. unit_sides (λ a b. holds a b r)) (rule_list ps) ≡ sum edge_of (rule_list ps) = sum-cong _ edge_of (rule_list ps) (λ r m. sides-hold r ((rule-rects ps acc).solid r m) ((rule-rects ps acc).range r m)) in
    omega (arith, sides-odd (rule_list ps))

-- for one rectangle it is 2·(W+H)
pub rule-edge-one : (ps : List Point) → Accepted ps → (r : Rect) → rule_list ps ≡ r ∷ [] → edge_length ps ≡ edge_of r
unfolding odd
rule-edge-one ps acc r e =
    let h = rw e at (rule-rects ps acc) in
    let alone : marks ps ≡ (λ a b. holds a b r) = sym (marks-held ps acc) ∙ rw e (fun_ext (λ a. fun_ext (λ b. xor-false (holds a b r)))) in
    rule-edge ps acc ∙ ap unit_sides alone ∙ sides-hold r (h.solid r (head refl)) (h.range r (head refl))
