-- `gdsii::add_area` meets its contract.
use Prim.Native.Nat.{◌+◌, ◌-◌, ◌*◌, ◌≤◌}
use native.Mathlib.Omega.{arith}
use mathlib.Core.Path.{◌≡◌, refl, sym, ap, ◌∙◌}
use lib.ListN.{take, drop}
use Rattle.std.specs.Prelude.{Result, Ok, Err, ℕ}
use Rattle.std.specs.Result.{result_unwrap_or}
use Rattle.plane.specs.Words.{points_of, most_cells}
use Rattle.entry.specs.declared.Refusal.{Refusal}
use Rattle.entry.specs.Entry.{told}
use Rattle.area.proofs.Kept.{area-most}
use Rattle.gdsii.specs.Inner.{marked_in}
use Rattle.gdsii.proofs.Gathering.{area-many, area-over, area-added}
use Rattle.gdsii.proofs.add_area.Goals as goal
use Rattle.gdsii.proofs.add_area.Goals.{After-unwrap_or-marked}

pub returns-then-n-k-gt-MOST_POINTS-clause-value : goal.returns-then-n-k-gt-MOST_POINTS-clause-value
returns-then-n-k-gt-MOST_POINTS-clause-value c = let a = c.args in sym (area-many a.n a.k a.area _ (omega arith))

pub returns-then-area-gt-MOST_CELLS-clause-value : goal.returns-then-area-gt-MOST_CELLS-clause-value
returns-then-area-gt-MOST_CELLS-clause-value c = let a = c.args in sym (area-over a.n a.k a.area _ (omega arith))

-- without a refusal it is the count that is told, and else 0
told-count : (r : Result ℕ Refusal) → result_unwrap_or r 0 ≡ (told r).count
told-count (Ok n) = refl
told-count (Err e) = refl

-- how many cells the corners mark
marked : (c : After-unwrap_or-marked) → let a = c.args in c.unwrap_or-marked.result ≡ marked_in (points_of (take (2 * a.k) (drop (2 * a.n) a.a.now)))
marked c =
    let a = c.args in
    let e : 2 * (a.n + a.k) - 2 * a.n ≡ 2 * a.k = omega arith in
    c.unwrap_or-marked.ensures ∙ told-count c.count_marked.result ∙ ap (λ r. r.count) c.count_marked.ensures ∙ ap (λ m. marked_in (points_of (take m (drop (2 * a.n) a.a.now)))) e

-- no more than there are
most : (c : After-unwrap_or-marked) → c.unwrap_or-marked.result ≤ most_cells
most c = rw (c.unwrap_or-marked.ensures ∙ told-count c.count_marked.result) (area-most _ c.count_marked.ensures)

pub overflow_add-result : goal.overflow_add-result
overflow_add-result c = record { fits = omega (arith, most (goal.at.overflow_add-result c).After-unwrap_or-marked) }

pub returns-clause-value : goal.returns-clause-value
returns-clause-value c =
    let a = c.args in
    let ps = points_of (take (2 * a.k) (drop (2 * a.n) a.a.now)) in
    ap (λ m. a.area + m) (marked (goal.at.returns-clause-value c).After-unwrap_or-marked) ∙ sym (area-added a.n a.k a.area ps (omega arith) (omega arith))

pub returns-clause-upper_bound : goal.returns-clause-upper_bound
returns-clause-upper_bound c = omega (arith, most (goal.at.returns-clause-upper_bound c).After-unwrap_or-marked)
