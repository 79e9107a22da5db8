-- `gdsii::same_name` meets its contract: it looks at the padding of a name only where the names are the same so far.
use mathlib.Core.Path.{◌≡◌, sym}
use mathlib.Core.Bool.{◌&&◌}
use lib.ListN.{drop}
use lib.Dec.{eqb}
use Rattle.std.specs.List.{list_all}
use Rattle.plane.proofs.AtPlace.{part-rest}
use Rattle.gdsii.specs.Walk.{same_name}
use Rattle.gdsii.proofs.Names.{same-unpadded}
use Rattle.gdsii.proofs.same_name.Goals as goal
use Rattle.gdsii.proofs.same_name.Goals.{Joined-eq, then-eq, else-eq}

-- what was found, with the padding of `b`, decides
decides : (c : Joined-eq) → (c.if-eq.value && list_all (λ n. eqb n 0) (drop c.min-shared.result c.args.b.now)) ≡ same_name c.args.a.now c.args.b.now
decides c =
    let whole = same-unpadded c.args.a.now c.args.b.now in
    elim c.if-eq.branch [
      | then-eq w ↦ rw (w.value-is, w.is_padding.ensures, part-rest) (rw (sym c.min-shared.ensures, sym c.eq.ensures, w.if-eq.true) at whole)
      | else-eq w ↦ rw (w.value-is, w.if-eq.false) (rw (sym c.min-shared.ensures, sym c.eq.ensures, w.if-eq.false) at whole)
    ]

pub returns-then-is_padding : goal.returns-then-is_padding
returns-then-is_padding c =
    let d = decides (goal.at.returns-then-is_padding c).Joined-eq in
    rw (c.is_padding-then-is_padding.ensures, part-rest) (rw c.if-is_padding.true at d)

pub returns-else-is_padding : goal.returns-else-is_padding
returns-else-is_padding c =
    let d = decides (goal.at.returns-else-is_padding c).Joined-eq in
    rw c.if-is_padding.false (rw c.if-is_padding.false at d)
