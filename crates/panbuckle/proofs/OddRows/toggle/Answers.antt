-- `panbuckle::OddRows::toggle` meets its contract: all rows are kept, or all but the highest.
use Prim.Native.Nat.{◌+◌, ◌*◌, ◌≤◌}
use native.Mathlib.Omega.{arith}
use mathlib.Core.Path.{◌≡◌, ap}
use mathlib.Core.List.{[]}
use lib.ListN.{length}
use borrow.Author.Rules.{rules}
use Rattle.std.specs.Prelude.{MatchOption}
use Rattle.std.proofs.lemmas.Iterator.Consumers.{reduce_from_yields_List}
use Rattle.plane.specs.Words.{eq_z, before}
use Rattle.plane.proofs.Arrays.{points-take}
use Rattle.rule.specs.Rule.{toggle}
use Rattle.checks.proofs.Scans.{points-given}
use Rattle.panbuckle.specs.Inner.{held, IsHighest, whole, given-up}
use Rattle.panbuckle.proofs.Scan.{held-length}
use Rattle.panbuckle.proofs.StopRow.{without-highest}
use Rattle.panbuckle.proofs.Toggling.{toggle-few, toggled-held}
use Rattle.panbuckle.proofs.Firsts.{greatest-is-highest}
use Rattle.panbuckle.proofs.OddRows.toggle.Goals as goal
use Rattle.panbuckle.proofs.OddRows.toggle.Goals.{After-toggled-self-inside, After-max, In-Some, In_default}

pub toggled-self-inside-requires : goal.toggled-self-inside-requires
toggled-self-inside-requires c =
    let i = c.self.inside in
    (omega arith, omega (arith, toggle-few i.count i.array c.args.p (omega arith)))

-- with p toggled
after : (c : After-toggled-self-inside) → let t = c.toggled-self-inside in held t.result t.new.a ≡ toggle (held c.self.inside.count c.self.inside.array) c.args.p
after c = let e = c.toggled-self-inside.ensures in toggled-held c.self.inside.count c.self.inside.array c.args.p (e.value, e.a_after)

-- the rows have room
few : (c : After-toggled-self-inside) → (c.toggled-self-inside.result ≤ c.self.inside.count + 1) × (2 * c.toggled-self-inside.result ≤ 2048) × (length c.toggled-self-inside.new.a ≡ 2048)
few c =
    let i = c.self.inside in
    let h = toggle-few i.count i.array c.args.p (omega arith) in
    (omega (arith, c.toggled-self-inside.ensures.value), omega (arith, c.toggled-self-inside.ensures.value), omega (arith, c.toggled-self-inside.auto.a))

many : (c : After-toggled-self-inside) → let t = c.toggled-self-inside in length (held t.result t.new.a) ≡ t.result
many c = held-length c.toggled-self-inside.result c.toggled-self-inside.new.a (omega (arith, (few c).1, (few c).2))

pub returns-then-self : goal.returns-then-self
returns-then-self c = rw (← c.self.view_is, after (goal.at.returns-then-self c).After-toggled-self-inside) whole

pub overflow_mul-self-inside : goal.overflow_mul-self-inside
overflow_mul-self-inside c = omega (arith, (few (goal.at.overflow_mul-self-inside c).After-toggled-self-inside).1)

pub shared_ref_as_front-points_in : goal.shared_ref_as_front-points_in
shared_ref_as_front-points_in c = (few (goal.at.shared_ref_as_front-points_in c).After-toggled-self-inside).1

-- the greatest of them, if there are any, is one of the highest
top : (c : After-max) → let rows = held c.toggled-self-inside.result c.toggled-self-inside.new.a in MatchOption c.max.result (rows ≡ []) (IsHighest rows)
unfolding before eq_z
top c =
    let t = c.toggled-self-inside in
    greatest-is-highest _ (λ p q. search rules) (held t.result t.new.a) (reduce_from_yields_List _ c.points_in.result c.max.result c.max.ensures.ran (rw points-take at (points-given {s = c.points_in.result} _ c.points_in.ensures)))

-- there are some
some : (c : In_default) → ⊥
some c =
    let m = goal.at-In_default c in
    let none = rw c.in_default.is at (top m.After-max) in
    omega (arith, ap length none, many m.After-toggled-self-inside)

pub invariant_of-self-in_default : goal.invariant_of-self-in_default
invariant_of-self-in_default c = absurd (some (goal.at.invariant_of-self-in_default c).In_default)

pub returns-in_default : goal.returns-in_default
returns-in_default c = absurd (some (goal.at.returns-in_default c).In_default)

highest : (c : In-Some) → IsHighest (held c.toggled-self-inside.result c.toggled-self-inside.new.a) c.in-Some.top
highest c = rw c.in-Some.is at (top (goal.at-In-Some c).After-max)

pub toggled-self-inside-requires-2 : goal.toggled-self-inside-requires-2
toggled-self-inside-requires-2 c =
    let a = (goal.at.toggled-self-inside-requires-2 c).After-toggled-self-inside in
    (omega (arith, (few a).1, (few a).2), omega (arith, (few a).1, (few a).2, many a, without-highest (highest (goal.at.toggled-self-inside-requires-2 c).In-Some)))

pub invariant_of-self-2 : goal.invariant_of-self-2
invariant_of-self-2 c =
    let a = (goal.at.invariant_of-self-2 c).After-toggled-self-inside in
    let h = without-highest (highest (goal.at.invariant_of-self-2 c).In-Some) in
    (omega (arith, (few a).0, many a, h, c.toggled-self-inside-2.ensures.value), c.self.invariant.1, c.self.invariant.2)

pub returns : goal.returns
returns c =
    let a = (goal.at.returns c).After-toggled-self-inside in
    let t = c.toggled-self-inside in
    let e = c.toggled-self-inside-2.ensures in
    let h = highest (goal.at.returns c).In-Some in
    let last = toggled-held t.result t.new.a c.in-Some.top (e.value, e.a_after) in
    rw (← c.self.view_is, last, after a) (given-up (omega (arith, ap length (after a), many a)) (rw (after a) at h))
