-- A sweep with an end to put comes to the next live rectangle ahead: the end is left of it, or the rectangle goes on. Where it ends is
-- in `Cutting`.
use Rattle.std.specs.Prelude.{Option, Some, None}
use mathlib.Core.Path.{◌≡◌, refl, ap, subst}
use mathlib.Core.Logic.{◌⊎◌, inl, inr}
use Prim.Native.Nat.{ℕ, ◌+◌, ◌*◌, ◌<◌, ◌≤◌}
use native.Mathlib.Omega.{arith}
use mathlib.Core.Bool.{true, false}
use mathlib.Core.List.Memᴰ.{head}
use mathlib.Core.List.Memᴰ.{not-nil}
use mathlib.Core.List.Memᴰ.{tail}
use mathlib.Core.List.{List, [], ◌∷◌, append_assoc, Memᴰ as In}
use lib.ListN.{length, take, drop}
use lib.IntN.{ℤ}
use lib.Signed.{le_z, lt_z}
use Rattle.plane.specs.declared.Point.{Point}
use Rattle.plane.specs.Lists.{sum_below}
use Rattle.plane.specs.Words.{eq_z}
use Rattle.plane.proofs.Bools.{cond-case}
use Rattle.plane.proofs.Order.{order, eq_z-is}
use Rattle.live.specs.declared.Live.{Live}
use Rattle.live.specs.Stands.{far, next_on, stand, IsLive, Sweeping}
use Rattle.live.proofs.Shown.{live-wide, apart-right, next-near}
use Rattle.live.proofs.Crossing.{keeps}
use Rattle.sweep.specs.declared.Sweep.{Sweep}
use Rattle.sweep.specs.Inner.{live_size, lives_of, put_live, live_at, reached_at, nearer, taken_from, passing, end_put, end_put_work, room_for, rest_of, passed_in, ahead_in, Underway, GoesOn, OneMore}
use Rattle.sweep.proofs.Places.{live-put, none-reached, one-reached}
use Rattle.sweep.proofs.Going.{given-most, put-room, put-ends}
use Rattle.sweep.proofs.Taking.{takes}

-- ---- What is next

-- a sweep under way, with an end to put at the next point of the row, which is at t, or at the right end carried
pub record Comes (qs : List Point) (work : List ℤ) (z : Sweep) (t : ℤ) : Type 0 where
  pub underway : Underway qs work z far
  pub at_next : t ≡ next_on z.row (rest_of qs z)
  pub end-waits : eq_z t z.carried ≡ false

module _ {qs : List Point} {work : List ℤ} {z : Sweep} {t : ℤ} (c : Comes qs work z t) where
  -- it is under way
  u : Underway qs work z far
  u = c.underway

  -- the point is where the next one of the row is
  at : t ≡ next_on z.row (rest_of qs z)
  at = c.at_next

  -- the right end carried is elsewhere
  other : eq_z t z.carried ≡ false
  other = c.end-waits

  -- the array has room for all live rectangles
  lives-room : live_size * room_for qs ≤ 2 * length qs
  lives-room = omega arith

  -- the nearer end is right of neither
  pub nearer-least : (le_z (nearer z t) t ≡ true) × (le_z (nearer z t) z.carried ≡ true)
  nearer-least = cond-case (λ (v : ℤ). (le_z v t ≡ true) × (le_z v z.carried ≡ true)) (lt_z t z.carried) (λ e. (omega order, omega order)) (λ e. (omega order, omega order))

  -- it is one of both
  pub nearer-one : (nearer z t ≡ t) ⊎ (nearer z t ≡ z.carried)
  nearer-one = cond-case (λ (v : ℤ). (v ≡ t) ⊎ (v ≡ z.carried)) (lt_z t z.carried) (λ e. inl refl) (λ e. inr refl)

  -- and there is one
  nearer-near : lt_z (nearer z t) far ≡ true
  nearer-near =
      let n = next-near z.row (rest_of qs z) u.sweeping.rest-range in
      let near = u.carried-near in
      let l = nearer-least in
      omega (order, at, other)

  -- those ahead after the next one
  abbrev pub others : List Live
  others = drop (z.ahead + 1) (take (room_for qs) (lives_of work))

  -- no live rectangle is reached by the end, and then one is
  abbrev pub reached : Option Live
  reached = reached_at work z.ahead (room_for qs) (nearer z t)

  -- the array has room for those ahead
  in_work : live_size * room_for qs ≤ length work
  in_work = omega (arith, lives-room, u.ready.working)

  -- ---- The end is left of the next one, if there is one

  module _ (e : reached ≡ None) where
    -- then it is left of all that are ahead
    left-of-all : (j : Live) → In j (ahead_in qs work z) → lt_z (nearer z t) j.left ≡ true
    left-of-all j m = go (none-reached work z.ahead (room_for qs) (nearer z t) in_work e)
      where
        k : Live
        k = live_at work z.ahead

        go : (ahead_in qs work z ≡ []) ⊎ ((ahead_in qs work z ≡ k ∷ others) × (lt_z (nearer z t) k.left ≡ true)) → lt_z (nearer z t) j.left ≡ true
        go (inl none) = absurd (not-nil (subst (λ (l : List Live). In j l) none m))
        go (inr some) = at_place (subst (λ (l : List Live). In j l) some.0 m)
          where
            w : Sweeping qs (stand (rest_of qs z) z.row z.carried z.opened far z.given (passed_in work z) (k ∷ others))
            w = rw some.0 at u.sweeping

            at_place : In j (k ∷ others) → lt_z (nearer z t) j.left ≡ true
            at_place (head d) = rw d some.1
            at_place (tail n) = omega (order, some.1, live-wide u.ready.points w.given-few (w.ahead-live k (head refl)), apart-right k others (passed_in work z) w.apart j n)

    -- it has room
    pub room-left : OneMore (taken_from z t) (length work)
    room-left =
        let d = takes u t at other left-of-all in
        let g = d.going in
        let p = put-room (nearer z t) g d.near in
        let few = g.ready.few in
        let next-few = g.next-within in
        let within = g.ahead_within in
        let working = g.ready.working in
        record { next-few = omega arith; given-few = given-most qs _ few g.sweeping.given-few; passed-few = omega arith; ahead_few = omega arith; in_work = omega arith }

    -- it is put on the row
    pub goes-put : GoesOn qs z work (end_put (taken_from z t) (nearer z t)) (end_put_work work (taken_from z t) (nearer z t))
    goes-put =
        let d = takes u t at other left-of-all in
        let p = put-ends (nearer z t) d.going d.near in
        record {
          kept = p.kept;
          underway = p.underway;
          less = rw p.as-much d.less;
          balance = λ w. omega (arith, p.balance w, d.same-lives w, ap (λ (g : ℕ). sum_below g w) d.same-given);
        }

  -- ---- The next one is not right of the end

  module _ {k : Live} (e : reached ≡ Some k) where
    -- so it is the first of those ahead
    pub here : (z.ahead < room_for qs) × (ahead_in qs work z ≡ k ∷ others) × (lt_z (nearer z t) k.left ≡ false)
    here = one-reached work z.ahead (room_for qs) (nearer z t) in_work e

    -- and the sweep stands before it
    pub stands : Sweeping qs (stand (rest_of qs z) z.row z.carried z.opened far z.given (passed_in work z) (k ∷ others))
    stands = rw here.1 at u.sweeping

    -- one more has room
    pub room-here : OneMore z (length work)
    room-here =
        let i = here.0 in
        let few = u.ready.few in
        let fit = u.passed-within in
        let working = u.ready.working in
        let next-few = u.next-within in
        record { next-few = omega arith; given-few = given-most qs _ few stands.given-few; passed-few = omega arith; ahead_few = omega arith; in_work = omega arith }

    -- it is live
    pub is_live : IsLive qs z.given k
    is_live = stands.ahead-live k (head refl)

    -- ---- It goes on

    -- it is passed
    pub goes-passed : eq_z z.opened far ≡ true → lt_z (nearer z t) k.right ≡ false → GoesOn qs z work (passing z) (put_live work z.passed k)
    goes-passed none past =
        let i = here.0 in
        let fit = u.passed-within in
        let p = live-put work z.passed k (room_for qs) (2 * length qs) (omega arith) lives-room u.ready.working in
        let l = nearer-least in
        let o : z.opened ≡ far = eq_z-is z.opened far none in
        let w : Sweeping qs (stand (rest_of qs z) z.row z.carried far far z.given (passed_in work z) (k ∷ others)) = rw o at stands in
        let v = keeps u.ready.points w (omega (order, at)) (omega order) in
        let is-ahead = p.later-stay (z.ahead + 1) (omega arith) in
        record {
          kept = p.kept;
          underway = record {
            ready = rw p.kept.same_length u.ready;
            next-within = u.next-within;
            passed-within = omega arith;
            ahead_within = omega arith;
            carried-near = u.carried-near;
            room = let r = u.room in omega arith;
            sweeping = rw (p.put-after, is-ahead, o) v;
          };
          less = omega arith;
          balance = λ w. rw (p.put-after, is-ahead, here.1, append_assoc (passed_in work z) (k ∷ []) others);
        }
