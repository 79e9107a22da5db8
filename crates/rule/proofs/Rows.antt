-- What the rows of the table pass: of each where nothing offends.
use mathlib.Core.Path.{◌≡◌}
use mathlib.Core.Logic.Iff
use mathlib.Core.Logic.{◌↔◌}
use Prim.Native.Nat.{ℕ, ◌*◌, ◌%◌, ◌≤◌, ◌<◌}
use native.Mathlib.Omega.{arith}
use mathlib.Core.Bool.{true, false}
use mathlib.Core.List.{List, [], ◌∷◌, Memᴰ as In}
use lib.ListN.{length}
use lib.Dec.{eqb}
use borrow.Author.Tests.{ltb-false, le-ltb, eqb-true, eqb-false, eq-eqb, ne_eqb, not-false}
use Rattle.plane.specs.declared.Point.{Point}
use Rattle.plane.specs.declared.Rect.{Rect}
use Rattle.plane.specs.Words.{origin, most_points, point_in_range, rect_in_range, flat}
use Rattle.plane.specs.Remaining.{Balanced}
use Rattle.plane.proofs.Places.{at-every-place, all_pass, rows-even, columns-even, once-exactly}
use Rattle.entry.specs.Checks.{Check, accepted, verdict}
use Rattle.entry.proofs.Verdicts.{Clear, AllClear, accepted-clear}
use Rattle.rule.specs.Rows.{LENGTH, MANY, WORK, RANGE, RANGE-rects, ROOM, FLAT, DRAINED, balance_checks, point_checks, few_then, Accepted, AcceptedRects}

-- ---- Rows of the whole

-- LENGTH passes multiples
pub length-clear : (numbers item : ℕ) → Clear (LENGTH numbers item) ↔ (numbers % item ≡ 0)
length-clear numbers item = let rest = numbers % item in (λ e. eqb-true rest 0 (not-false (eqb rest 0) e), λ e. rw (eq-eqb rest 0 e))

-- MANY passes up to the most
pub many-clear : (most items : ℕ) → Clear (MANY most items) ↔ (items ≤ most)
many-clear most items = (ltb-false most items, le-ltb most items)

-- WORK passes two numbers for each point
pub work-clear : (work points : ℕ) → Clear (WORK work points) ↔ (2 * points ≤ work)
work-clear work points = many-clear work (2 * points)

-- ROOM passes what fits
pub room-clear : (needed room : ℕ) → Clear (ROOM needed room) ↔ (needed ≤ room)
room-clear needed room = many-clear room needed

-- DRAINED passes some points
pub drained-clear : (points : ℕ) → Clear (DRAINED points) ↔ (0 < points)
drained-clear points = (λ e. omega (arith, eqb-false points 0 e), λ h. ne_eqb points 0 (λ e. omega arith))

-- ---- Rows of the points, and of rectangles

-- RANGE passes points in range
range_clear : (ps : List Point) → Clear (RANGE ps) ↔ ((q : Point) → In q ps → point_in_range q ≡ true)
range_clear ps = all_pass point_in_range ps origin

pub balance-clear : (ps : List Point) → AllClear (balance_checks ps) ↔ Balanced ps
unfolding balance_checks
balance-clear ps = (
  λ h. record { range = (range_clear ps).0 h.0; rows = (rows-even ps).0 h.1.0; columns = (columns-even ps).0 h.1.1.0 },
  λ c. ((range_clear ps).1 c.range, ((rows-even ps).1 c.rows, ((columns-even ps).1 c.columns, tt))),
)

pub points-clear : (ps : List Point) → AllClear (point_checks ps) ↔ Accepted ps
unfolding point_checks
points-clear ps = (
  λ h. record { range = (range_clear ps).0 h.0; once = (once-exactly ps).0 h.1.0; rows = (rows-even ps).0 h.1.1.0; columns = (columns-even ps).0 h.1.1.1.0 },
  λ c. ((range_clear ps).1 c.range, ((once-exactly ps).1 c.once, ((rows-even ps).1 c.rows, ((columns-even ps).1 c.columns, tt)))),
)

-- such checks, with MANY before them, accept exactly what passes them and is not too much
few-accepted : (checks : List Point → List Check) (P : List Point → Type 0) → ((ps : List Point) → AllClear (checks ps) ↔ P ps) → (ps : List Point) → (verdict (few_then checks ps) ≡ accepted) ↔ ((length ps ≤ most_points) × P ps)
few-accepted checks P clear ps =
    let few = many-clear most_points (length ps) in
    Iff.trans (accepted-clear (few_then checks ps)) (λ h. (few.0 h.0, (clear ps).0 h.1), λ c. (few.1 c.0, (clear ps).1 c.1))

-- forward's: points in range, with every row and every column even
pub balance-accepted : (ps : List Point) → (verdict (few_then balance_checks ps) ≡ accepted) ↔ ((length ps ≤ most_points) × Balanced ps)
balance-accepted = few-accepted balance_checks Balanced balance-clear

-- a step's: the same, none twice
pub points-accepted : (ps : List Point) → (verdict (few_then point_checks ps) ≡ accepted) ↔ ((length ps ≤ most_points) × Accepted ps)
points-accepted = few-accepted point_checks Accepted points-clear

pub rects-clear : (rs : List Rect) → AllClear (FLAT rs ∷ RANGE-rects rs ∷ []) ↔ AcceptedRects rs
rects-clear rs = (λ h. record { solid = solid-at.0 h.0; range = range_at.0 h.1.0 }, λ c. (solid-at.1 c.solid, (range_at.1 c.range, tt)))
  where
    solid-at : Clear (FLAT rs) ↔ ((r : Rect) → In r rs → flat r ≡ false)
    solid-at = at-every-place (λ r. flat r ≡ false) rs _

    range_at : Clear (RANGE-rects rs) ↔ ((r : Rect) → In r rs → rect_in_range r ≡ true)
    range_at = all_pass rect_in_range rs _
