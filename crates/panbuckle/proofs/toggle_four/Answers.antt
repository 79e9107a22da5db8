-- `panbuckle::toggle_four` meets its contract: what the array keeps is carried from toggle to toggle.
use Prim.Native.Nat.{◌≤◌}
use mathlib.Core.List.{List}
use lib.ListN.{length}
use Rattle.plane.specs.declared.Point.{Point}
use Rattle.rule.specs.Rule.{toggle, toggle_four}
use Rattle.panbuckle.specs.Inner.{held, cross}
use Rattle.panbuckle.proofs.Scan.{held-length}
use Rattle.panbuckle.proofs.Toggling.{Keeps, keeps-first, keeps-room, keeps-toggled}
use Rattle.panbuckle.proofs.Taking.{begun-lengths}
use Rattle.panbuckle.proofs.toggle_four.Goals as goal
use Rattle.panbuckle.proofs.toggle_four.Goals.{After-toggled, After-toggled-n1, After-toggled-n2, After-toggled-n3, Start}

-- the points after each toggle
abbrev points₀ : Start → List Point
points₀ s = held s.args.n s.args.a.now

abbrev points₁ : Start → List Point
points₁ s = toggle (points₀ s) s.args.k

abbrev points₂ : Start → List Point
points₂ s = toggle (points₁ s) s.args.l

abbrev points₃ : Start → List Point
points₃ s = toggle (points₂ s) (cross s.args.k s.args.m)

abbrev points₄ : Start → List Point
points₄ s = toggle (points₃ s) (cross s.args.l s.args.m)

-- they are never more than at the start
few : (s : Start) → (length (points₁ s) ≤ s.args.n) × (length (points₂ s) ≤ s.args.n) × (length (points₃ s) ≤ s.args.n) × (length (points₄ s) ≤ s.args.n)
few s = rw (held-length s.args.n s.args.a.now s.requires.room) at (begun-lengths s.requires.begun (cross s.args.k s.args.m) (cross s.args.l s.args.m))

-- what the array keeps after each toggle
keeps₀ : (s : Start) → Keeps s.args.n s.args.a.now s.args.a.now s.args.n (points₀ s)
keeps₀ s = keeps-first s.requires.room

keeps₁ : (c : After-toggled-n1) → let s = (goal.at-After-toggled-n1 c).Start in Keeps s.args.n s.args.a.now c.toggled-n1.new.a c.toggled-n1.result (points₁ s)
keeps₁ c = let s = (goal.at-After-toggled-n1 c).Start in keeps-toggled (keeps₀ s) s.args.k (few s).0 (c.toggled-n1.ensures.value, c.toggled-n1.ensures.a_after)

keeps₂ : (c : After-toggled-n2) → let s = (goal.at-After-toggled-n2 c).Start in Keeps s.args.n s.args.a.now c.toggled-n2.new.a c.toggled-n2.result (points₂ s)
keeps₂ c =
    let s = (goal.at-After-toggled-n2 c).Start in
    keeps-toggled (keeps₁ (goal.at-After-toggled-n2 c).After-toggled-n1) s.args.l (few s).1 (c.toggled-n2.ensures.value, c.toggled-n2.ensures.a_after)

keeps₃ : (c : After-toggled-n3) → let s = (goal.at-After-toggled-n3 c).Start in Keeps s.args.n s.args.a.now c.toggled-n3.new.a c.toggled-n3.result (points₃ s)
keeps₃ c =
    let s = (goal.at-After-toggled-n3 c).Start in
    let e = c.corner.ensures in
    rw e at (keeps-toggled (keeps₂ (goal.at-After-toggled-n3 c).After-toggled-n2) c.corner.result (rw e (few s).2) (c.toggled-n3.ensures.value, c.toggled-n3.ensures.a_after))

keeps₄ : (c : After-toggled) → let s = (goal.at-After-toggled c).Start in Keeps s.args.n s.args.a.now c.toggled.new.a c.toggled.result (points₄ s)
keeps₄ c =
    let s = (goal.at-After-toggled c).Start in
    let e = c.corner-2.ensures in
    rw e at (keeps-toggled (keeps₃ (goal.at-After-toggled c).After-toggled-n3) c.corner-2.result (rw e (few s).3) (c.toggled.ensures.value, c.toggled.ensures.a_after))

pub toggled-n1-requires : goal.toggled-n1-requires
toggled-n1-requires c = let s = (goal.at.toggled-n1-requires c).Start in keeps-room (keeps₀ s) s.args.k (few s).0

pub toggled-n2-requires : goal.toggled-n2-requires
toggled-n2-requires c = keeps-room (keeps₁ (goal.at.toggled-n2-requires c).After-toggled-n1) c.args.l (few (goal.at.toggled-n2-requires c).Start).1

pub toggled-n3-requires : goal.toggled-n3-requires
toggled-n3-requires c = keeps-room (keeps₂ (goal.at.toggled-n3-requires c).After-toggled-n2) c.corner.result (rw c.corner.ensures (few (goal.at.toggled-n3-requires c).Start).2)

pub toggled-requires : goal.toggled-requires
toggled-requires c = keeps-room (keeps₃ (goal.at.toggled-requires c).After-toggled-n3) c.corner-2.result (rw c.corner-2.ensures (few (goal.at.toggled-requires c).Start).3)

pub returns : goal.returns
unfolding toggle_four
returns c = let h = keeps₄ (goal.at.returns c).After-toggled in record { value = h.many; a_after = h.all }
