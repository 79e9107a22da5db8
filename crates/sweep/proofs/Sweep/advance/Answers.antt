-- `sweep::Sweep::advance` meets its contract: each way through it is a move of the sweep.
use Prim.Native.Nat.{ℕ, ◌≤◌, ◌^◌}
use native.Mathlib.Omega.{arith}
use mathlib.Core.Bool.{true, false, not}
use mathlib.Core.Path.{◌≡◌, refl, sym, ap, ◌∙◌}
use mathlib.Core.Logic.{◌⊎◌, inl, inr, ⊎_elim}
use lib.IntN.{ℤ, pos, nat_abs}
use lib.Dec.{lit<}
use lib.Signed.{lt_z, nat_abs-le}
use mir.Syntax.{w32}
use mir.Val.{of_z, to_z}
use mir.Facts.{Fits-below}
use borrow.Author.Tests.{not-true, not-false, eq-eqb, ne_eqb}
use Rattle.std.specs.Prelude.{Option, Some, None}
use Rattle.entry.specs.declared.Refusal.{Refusal}
use Rattle.entry.specs.Refusals.{number_of}
use Rattle.plane.specs.Words.{eq_z}
use Rattle.plane.proofs.Bits.{eq-bits, back}
use Rattle.plane.proofs.Bools.{or_parts, or-one}
use Rattle.live.specs.Stands.{far, next_on}
use Rattle.live.specs.declared.Live.{Live}
use Rattle.sweep.specs.Inner.{x_on, reached_at, nearer, swept, room_for, rest_of}
use Rattle.sweep.proofs.Places.{next_of, next-is-first, on-row-at}
use Rattle.sweep.proofs.Taking.{goes-cancelled}
use Rattle.sweep.proofs.NextRow.{RowDone, turns-on, stops}
use Rattle.sweep.proofs.Meeting.{Comes, reached, room-left, goes-put, room-here, is_live, goes-passed}
use Rattle.sweep.proofs.Cutting.{sides-fit, gives_cut}
use Rattle.sweep.proofs.Sweep.advance.Goals as goal
use Rattle.sweep.proofs.Sweep.advance.Goals.{Start, After-on_row-t, After-get-next, After-nearer-x, Then-t-self, Else-t-ne-FAR, After-reached, In_default-reached, In-Some-reached, After-is_open, Then-is_open-x}

-- ---- The next point

-- the next point is the first of those to come
next-is : (o : After-get-next) → o.get-next.result ≡ next_of (rest_of (swept o.args.points) o.args.self.now)
next-is o = o.get-next.ensures ∙ next-is-first (swept o.args.points) o.args.self.now.next

-- on the row it is where the next point of the row is
at_next : (o : After-on_row-t) → o.on_row-t.result ≡ next_on o.args.self.now.row (rest_of (swept o.args.points) o.args.self.now)
at_next o = let z = o.args.self.now in o.on_row-t.ensures ∙ ap (x_on z.row) (next-is (goal.at-After-on_row-t o).After-get-next) ∙ on-row-at z.row (rest_of (swept o.args.points) z)

-- a local has the number of its bits
t-kept : (o : After-on_row-t) → to_z w32 (of_z w32 o.on_row-t.result) ≡ o.on_row-t.result
t-kept o = back o.on_row-t.result o.on_row-t.type_inv

-- ---- A point and the right end carried cancel, or the row is done

-- the next point of the row is where the right end carried is
same : (c : Then-t-self) → eq_z c.on_row-t.result c.args.self.now.carried ≡ true
same c = sym (eq-bits c.on_row-t.result c.args.self.now.carried (omega arith) (omega arith)) ∙ eq-eqb _ _ c.if-t-self.true

pub returns-then-t-ne-FAR : goal.returns-then-t-ne-FAR
returns-then-t-ne-FAR c =
    let o = (goal.at.returns-then-t-ne-FAR c).After-on_row-t in
    let there : eq_z c.on_row-t.result far ≡ false = sym (eq-bits c.on_row-t.result (pos 2_000_000_000) (omega arith) (lit< tt)) ∙ ne_eqb _ _ c.if-t-ne-FAR.true in
    goes-cancelled c.requires c.on_row-t.result (at_next o) (same (goal.at.returns-then-t-ne-FAR c).Then-t-self) there

-- the row is done
row_done : (e : Else-t-ne-FAR) → RowDone (swept e.args.points) e.args.work.now e.args.self.now e.get-next.result e.on_row-t.result
row_done e =
    let o = (goal.at-Else-t-ne-FAR e).After-on_row-t in
    record {
      underway = e.requires;
      next-is = next-is (goal.at-Else-t-ne-FAR e).After-get-next;
      at_next = at_next o;
      none-waits = same (goal.at-Else-t-ne-FAR e).Then-t-self;
      none-there = sym (eq-bits e.on_row-t.result (pos 2_000_000_000) (omega arith) (lit< tt)) ∙ eq-eqb _ _ e.if-t-ne-FAR.false;
    }

pub returns-in_default : goal.returns-in_default
returns-in_default c = (ap (λ (e : Refusal). number_of e.reason) c.at.ensures, ap (λ (e : Refusal). e.place) c.at.ensures, stops (row_done (goal.at.returns-in_default c).Else-t-ne-FAR) c.in_default.is)

pub returns-then-t-self : goal.returns-then-t-self
returns-then-t-self c = turns-on (row_done (goal.at.returns-then-t-self c).Else-t-ne-FAR) c.in-Some.is c.turn.ensures

-- ---- An end to put

-- the sweep has an end to put
comes : (n : After-nearer-x) → Comes (swept n.args.points) n.args.work.now n.args.self.now n.on_row-t.result
comes n =
    record {
      underway = n.requires;
      at_next = at_next (goal.at-After-nearer-x n).After-on_row-t;
      end-waits = sym (eq-bits n.on_row-t.result n.args.self.now.carried (omega arith) (omega arith)) ∙ ne_eqb _ _ n.if-t-self.false;
    }

-- at the nearer of the point and the right end carried
x-is : (n : After-nearer-x) → to_z w32 (of_z w32 n.nearer-x.result) ≡ nearer n.args.self.now n.on_row-t.result
x-is n = back n.nearer-x.result n.nearer-x.type_inv ∙ n.nearer-x.ensures ∙ ap (nearer n.args.self.now) (t-kept (goal.at-After-nearer-x n).After-on_row-t)

-- what it reaches with that
reached-is : (r : After-reached) → r.reached.result ≡ reached_at r.args.work.now r.args.self.now.ahead (room_for (swept r.args.points)) (nearer r.args.self.now r.on_row-t.result)
reached-is r =
    let at : ℕ → ℤ → Option Live = reached_at r.args.work.now r.args.self.now.ahead in
    r.reached.ensures ∙ ap (λ n. at n (to_z w32 (of_z w32 r.nearer-x.result))) r.room.ensures ∙ ap (at (room_for (swept r.args.points))) (x-is (goal.at-After-reached r).After-nearer-x)

-- ---- The end is put

-- no live rectangle is reached
none : (d : In_default-reached) → reached (comes (goal.at-In_default-reached d).After-nearer-x) ≡ None
none d = sym (reached-is (goal.at-In_default-reached d).After-reached) ∙ d.in_default-reached.is

pub put_end-requires : goal.put_end-requires
put_end-requires c =
    let n = (goal.at.put_end-requires c).After-nearer-x in
    rw (c.take.ensures, t-kept (goal.at.put_end-requires c).After-on_row-t) (room-left (comes n) (none (goal.at.put_end-requires c).In_default-reached))

pub returns-in_default-reached : goal.returns-in_default-reached
returns-in_default-reached c =
    let n = (goal.at.returns-in_default-reached c).After-nearer-x in
    rw (c.put_end.ensures.value, c.put_end.ensures.work_after, c.take.ensures, t-kept (goal.at.returns-in_default-reached c).After-on_row-t, x-is n) (goes-put (comes n) (none (goal.at.returns-in_default-reached c).In_default-reached))

-- ---- A live rectangle is reached

-- it is the next one
one : (s : In-Some-reached) → reached (comes (goal.at-In-Some-reached s).After-nearer-x) ≡ Some s.in-Some-reached.k
one s = sym (reached-is (goal.at-In-Some-reached s).After-reached) ∙ s.in-Some-reached.is

-- whether the end falls into it, and whether a rectangle is open
falls-is : (f : After-is_open) → lt_z (to_z w32 (of_z w32 f.nearer-x.result)) (to_z w32 (of_z w32 f.in-Some-reached.k.right)) ≡ lt_z (nearer f.args.self.now f.on_row-t.result) f.in-Some-reached.k.right
falls-is f = rw (x-is (goal.at-After-is_open f).After-nearer-x, back f.in-Some-reached.k.right (omega arith)) refl

open_is : (f : After-is_open) → not (eq_z f.args.self.now.opened far) ≡ f.is_open.result
open_is f = sym f.is_open.ensures

-- ---- It ends

-- something is open, or the end falls into it
over : (c : Then-is_open-x) → (eq_z c.args.self.now.opened far ≡ false) ⊎ (lt_z (nearer c.args.self.now c.on_row-t.result) c.in-Some-reached.k.right ≡ true)
over c =
    let f = (goal.at-Then-is_open-x c).After-is_open in
    ⊎_elim (λ (h : c.is_open.result ≡ true). inl (not-true _ (open_is f ∙ h))) (λ h. inr (sym (falls-is f) ∙ h)) (or-one c.is_open.result _ c.if-is_open-x.true)

pub ended-rect-requires : goal.ended-rect-requires
ended-rect-requires c =
    let s = (goal.at.ended-rect-requires c).In-Some-reached in
    sides-fit (comes (goal.at.ended-rect-requires c).After-nearer-x) (one s) (over (goal.at.ended-rect-requires c).Then-is_open-x)

pub cut-requires : goal.cut-requires
cut-requires c = room-here (comes (goal.at.cut-requires c).After-nearer-x) (one (goal.at.cut-requires c).In-Some-reached)

-- its place is a number
pub overflow_cast-result : goal.overflow_cast-result
overflow_cast-result c =
    let k = c.in-Some-reached.k in
    let l = is_live (comes (goal.at.overflow_cast-result c).After-nearer-x) (one (goal.at.overflow_cast-result c).In-Some-reached) in
    let most : nat_abs k.place ≤ 2 ^ 31 = nat_abs-le k.place (omega arith) in
    rw (back k.place (omega arith)) (rw l.place_is tt, Fits-below tt most)

pub returns-then-is_open-x : goal.returns-then-is_open-x
returns-then-is_open-x c =
    let n = (goal.at.returns-then-is_open-x c).After-nearer-x in
    rw (c.ended-rect.ensures, c.cut.ensures.value, c.cut.ensures.work_after, t-kept (goal.at.returns-then-is_open-x c).After-on_row-t, back c.in-Some-reached.k.place (omega arith)) (gives_cut (comes n) (one (goal.at.returns-then-is_open-x c).In-Some-reached) (over (goal.at.returns-then-is_open-x c).Then-is_open-x))

-- ---- It goes on

pub pass-requires : goal.pass-requires
pass-requires c = room-here (comes (goal.at.pass-requires c).After-nearer-x) (one (goal.at.pass-requires c).In-Some-reached)

pub returns : goal.returns
returns c =
    let f = (goal.at.returns c).After-is_open in
    let h = or_parts c.is_open.result _ c.if-is_open-x.false in
    rw (c.pass.ensures.value, c.pass.ensures.work_after) (goes-passed (comes (goal.at.returns c).After-nearer-x) (one (goal.at.returns c).In-Some-reached) (not-false _ (open_is f ∙ h.0)) (sym (falls-is f) ∙ h.1))
