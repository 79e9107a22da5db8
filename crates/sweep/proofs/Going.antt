-- A sweep that goes on with a point in hand: the point is taken, and put on the row as an end that opens a rectangle or closes the open one.
use mathlib.Core.Path.{◌≡◌, refl, ap, subst}
use Prim.Native.Nat.{ℕ, ◌+◌, ◌*◌, ◌<◌, ◌≤◌}
use native.Mathlib.Nat.{mul-le-mul_left}
use native.Mathlib.Omega.{arith}
use mathlib.Core.Bool.{Bool, true, false, not, cond}
use mathlib.Core.List.{List, [], ◌∷◌, ◌++◌}
use lib.ListN.{length}
use lib.IntN.{ℤ}
use Rattle.plane.specs.declared.Point.{Point}
use Rattle.plane.specs.Lists.{sum, sum_below}
use Rattle.plane.specs.Words.{eq_z, most_points}
use Rattle.plane.proofs.Bools.{bit-most}
use Rattle.plane.proofs.Order.{eq_z-is, eq_z-refl}
use Rattle.plane.proofs.Sums.{sum-append, sum-last-added, below_next}
use Rattle.rule.specs.Rows.{Accepted}
use Rattle.rule.specs.Rule.{rule_list}
use Rattle.rule.proofs.Bound.{even-length, rule-most}
use Rattle.live.specs.declared.Live.{Live}
use Rattle.live.specs.Stands.{far, number, stand, Sweeping}
use Rattle.live.proofs.Moves.{opens, closes}
use Rattle.sweep.specs.declared.Sweep.{Sweep}
use Rattle.sweep.specs.Inner.{put_live, KeptPast, with_opened, closed, new_live, end_put, end_put_work, room_for, rest_of, passed_in, ahead_in, there, Underway, to_come, live_sum, most_begun}
use Rattle.sweep.proofs.Past.{kept-all}
use Rattle.sweep.proofs.Places.{live-put}

-- ---- Counts

-- an end that is there counts one
pub there-one : (x : ℤ) → eq_z x far ≡ false → there x ≡ 1
there-one x e = rw e

-- where there is none, none
pub there-none : (x : ℤ) → eq_z x far ≡ true → there x ≡ 0
there-none x e = rw e

-- none counts more than one
pub there-most : (x : ℤ) → there x ≤ 1
there-most x = bit-most (not (eq_z x far))

-- accepted points are two for each live rectangle that has room
pub room-half : (qs : List Point) → Accepted qs → 2 * room_for qs ≡ length qs
room-half qs acc = let e = even-length qs acc in let d = e.1 in omega arith

-- their list has at most 4,096 squared rectangles
pub given-most : (qs : List Point) (g : ℕ) → length qs ≤ most_points → g ≤ length (rule_list qs) → g ≤ most_begun
given-most qs g few listed =
    let n : ℕ = length qs in
    let square : n * n ≤ n * most_points = mul-le-mul_left n few in
    omega (arith, rule-most qs)

-- ---- Sums over live numbers

-- the next rectangle begins, and is live
new-balance : (w : ℕ → ℕ) (A B : List Live) (k : Live) (g : ℕ) → number k ≡ g → let f : Live → ℕ = λ k. w (number k) in sum f ((A ++ (k ∷ [])) ++ B) + sum_below g w ≡ sum f (A ++ B) + sum_below (g + 1) w
new-balance w A B k g e =
    let f : Live → ℕ = λ k. w (number k) in
    let d : f k ≡ w g = ap w e in
    omega (arith, sum-append f (A ++ (k ∷ [])) B, sum-last-added f A k, sum-append f A B, below_next g w)

-- ---- A point in hand

-- with a point in hand there is room for one more
pub put-room : {qs : List Point} {work : List ℤ} {z : Sweep} (h : ℤ) → Underway qs work z h → eq_z h far ≡ false → z.passed < z.ahead
put-room {qs} {z = z} h g e = let half = room-half qs g.ready.points in let r = g.room in let w = g.ahead_within in omega (arith, there-one h e)

-- an end that is put: the sweep is under way, as much is to come, and what has begun is live
pub record Put (qs : List Point) (z : Sweep) (before : List ℤ) (at : Sweep) (after : List ℤ) : Type 0 where
  pub underway : Underway qs after at far
  pub as-much : to_come qs at ≡ to_come qs z
  pub balance : (w : ℕ → ℕ) → live_sum qs after at w + sum_below z.given w ≡ live_sum qs before z w + sum_below at.given w
  pub kept : KeptPast (2 * length qs) before after

module _ {qs : List Point} {work : List ℤ} {z : Sweep} (v : ℤ) (g : Underway qs work z v) (e : eq_z v far ≡ false) where
  -- it opens a rectangle
  put-opens : eq_z z.opened far ≡ true → Put qs z work (with_opened z v) work
  put-opens d = record {
    underway = record {
      ready = g.ready;
      next-within = g.next-within;
      passed-within = g.passed-within;
      ahead_within = g.ahead_within;
      carried-near = g.carried-near;
      room = let r = g.room in omega (arith, there-one v e, there-none z.opened d, there-none far (eq_z-refl far));
      sweeping = opens g.ready.points (subst (λ o. Sweeping qs (stand (rest_of qs z) z.row z.carried o v z.given (passed_in work z) (ahead_in qs work z))) (eq_z-is z.opened far d) g.sweeping) e;
    };
    as-much = refl;
    balance = λ w. refl;
    kept = kept-all;
  }

  -- or closes the one that is open
  put-closes : eq_z z.opened far ≡ false → Put qs z work (closed z) (put_live work z.passed (new_live z v))
  put-closes d =
      let u = put-room v g e in
      let within = g.ahead_within in
      let working = g.ready.working in
      let new : Live = new_live z v in
      let after : List ℤ = put_live work z.passed new in
      let p = live-put work z.passed new (room_for qs) (2 * length qs) (omega arith) (omega arith) working in
      let c = closes g.ready.points g.sweeping d e in
      let is-passed : passed_in after (closed z) ≡ passed_in work z ++ (new ∷ []) = p.put-after in
      let is-ahead : ahead_in qs after (closed z) ≡ ahead_in qs work z = p.later-stay z.ahead u in
      record {
        underway = record {
          ready = rw p.kept.same_length g.ready;
          next-within = g.next-within;
          passed-within = omega arith;
          ahead_within = within;
          carried-near = g.carried-near;
          room = let r = g.room in omega (arith, there-one v e, there-one z.opened d, there-none far (eq_z-refl far));
          sweeping = rw (is-passed, is-ahead) c.1;
        };
        as-much = refl;
        balance = λ w. rw (is-passed, is-ahead) (new-balance w (passed_in work z) (ahead_in qs work z) new z.given refl);
        kept = p.kept;
      }

  -- the one or the other
  pub put-ends : Put qs z work (end_put z v) (end_put_work work z v)
  put-ends = go (eq_z z.opened far) refl
    where
      go : (t : Bool) → eq_z z.opened far ≡ t → Put qs z work (cond t (with_opened z v) (closed z)) (cond t work (put_live work z.passed (new_live z v)))
      go true d = put-opens d
      go false d = put-closes d
