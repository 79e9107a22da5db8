-- `gdsii::Reader::read_with` meets its contract: by what was gathered.
use Prim.Native.Nat.{◌*◌}
use mathlib.Core.Path.{◌≡◌, refl, sym, ap}
use lib.ListN.{take}
use Rattle.plane.specs.Words.{flat_points}
use Rattle.plane.proofs.Bools.{denied, granted}
use Rattle.plane.proofs.Arrays.{length-flat-points, points-flat}
use Rattle.entry.specs.Entry.{told}
use Rattle.boundaries.specs.Boundary.{handed_on}
use Rattle.gdsii.specs.Inner.{whole_walk}
use Rattle.gdsii.proofs.Gathering.{Ended, whole_says}
use Rattle.entry.proofs.Reasons.{passed-up}
use Rattle.gdsii.proofs.Call.{read-shapes, stopped-read, absent-read, many_read, handed-read, corners-there}
use Rattle.gdsii.proofs.Reader.read_with.Goals as goal
use Rattle.gdsii.proofs.Reader.read_with.Goals.{In_ok-gathered, Else-gathered-gt-MOST_POINTS}

pub returns-in_err-gathered-clause-read_says : goal.returns-in_err-gathered-clause-read_says
returns-in_err-gathered-clause-read_says c =
    let a = c.args in
    stopped-read (whole_walk a.self.now) a.corners.now c.in_err-gathered.ensures.value refl (ap told (passed-up c.from_residual.result _ c.from_residual.ensures.1))

-- the walk went to its end
ended : (c : In_ok-gathered) → let g = c.in_ok-gathered.gathered in Ended (whole_walk c.args.self.now) g.found g.count g.area
ended c = whole_says (whole_walk c.args.self.now) (sym c.in_ok-gathered.ensures.value)

pub returns-then-not-gathered-clause-read_says : goal.returns-then-not-gathered-clause-read_says
returns-then-not-gathered-clause-read_says c =
    let a = c.args in
    rw c.at.ensures (absent-read (whole_walk a.self.now) a.corners.now (ended (goal.at.returns-then-not-gathered-clause-read_says c).In_ok-gathered) (denied _ c.if-not-gathered.true) refl)

pub returns-then-gathered-gt-MOST_POINTS-clause-read_says : goal.returns-then-gathered-gt-MOST_POINTS-clause-read_says
returns-then-gathered-gt-MOST_POINTS-clause-read_says c =
    let a = c.args in
    rw c.at-then-gathered-gt-MOST_POINTS.ensures (many_read (whole_walk a.self.now) a.corners.now (ended (goal.at.returns-then-gathered-gt-MOST_POINTS-clause-read_says c).In_ok-gathered) (granted _ c.if-not-gathered.false) c.if-gathered-gt-MOST_POINTS.true refl)

-- the corners in the scratch array
there : (c : Else-gathered-gt-MOST_POINTS) → take (2 * c.in_ok-gathered.gathered.count) c.gather.new.a ≡ flat_points (handed_on (ended (goal.at-Else-gathered-gt-MOST_POINTS c).In_ok-gathered).boundaries)
there c = corners-there (ended (goal.at-Else-gathered-gt-MOST_POINTS c).In_ok-gathered) c.args.scratch.now c.gather.new.a c.requires c.gather.ensures.filled c.if-gathered-gt-MOST_POINTS.false

pub hand_on-requires : goal.hand_on-requires
hand_on-requires c =
    let ps = handed_on (ended (goal.at.hand_on-requires c).In_ok-gathered).boundaries in
    rw (there (goal.at.hand_on-requires c).Else-gathered-gt-MOST_POINTS, points-flat ps) (length-flat-points ps)

pub returns-clause-read_says : goal.returns-clause-read_says
returns-clause-read_says c =
    let a = c.args in
    let w = ended (goal.at.returns-clause-read_says c).In_ok-gathered in
    handed-read (whole_walk a.self.now) a.corners.now w (granted _ c.if-not-gathered.false) c.if-gathered-gt-MOST_POINTS.false (read-shapes a.self.now.name.now a.self.now.layer a.self.now.bytes.now w.outcome) (there (goal.at.returns-clause-read_says c).Else-gathered-gt-MOST_POINTS) c.hand_on.ensures
