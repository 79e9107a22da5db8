-- A sweep takes the nearer of the next point on its row and the right end carried, or both where they cancel; less is to come then.
use mathlib.Core.Path.{◌≡◌, refl, sym, ◌∙◌}
use Prim.Native.Nat.{ℕ, ◌+◌, ◌<◌, ◌≤◌}
use native.Mathlib.Omega.{arith}
use mathlib.Core.Bool.{Bool, true, false, cond}
use mathlib.Core.List.{List, ◌∷◌, Memᴰ as In}
use lib.ListN.{length}
use lib.IntN.{ℤ}
use lib.Signed.{lt_z}
use Rattle.plane.specs.declared.Point.{Point}
use Rattle.plane.specs.Words.{eq_z, most_points}
use Rattle.plane.proofs.Bools.{cond-case, bit-most}
use Rattle.plane.proofs.Order.{order, eq_z-refl}
use Rattle.plane.proofs.Places.{rest-next}
use Rattle.live.specs.declared.Live.{Live}
use Rattle.live.specs.Stands.{far, next_on, stand, Sweeping}
use Rattle.live.proofs.Shown.{next-near}
use Rattle.live.proofs.Moves.{cancels, takes-point, takes-carried}
use Rattle.sweep.specs.declared.Sweep.{Sweep}
use Rattle.sweep.specs.Inner.{nearer, after_point, with_carried, cancelled, taken_from, rest_of, passed_in, ahead_in, Underway, to_come, live_sum, GoesOn}
use Rattle.sweep.proofs.Past.{kept-all}
use Rattle.sweep.proofs.Places.{first-on-row}
use Rattle.sweep.proofs.Going.{there-one, there-none, there-most}

-- ---- Where a sweep is then

-- the live rectangles ahead stay where they are
pub taken-ahead : (z : Sweep) (x : ℤ) → (taken_from z x).ahead ≡ z.ahead
taken-ahead z x = cond-case (λ (y : Sweep). y.ahead ≡ z.ahead) (lt_z x z.carried) (λ e. refl) (λ e. refl)

-- ---- What is to come

-- with a point less, less is to come
pub point-less : (qs : List Point) (z at : Sweep) → length qs ≤ most_points → z.next < length qs → at.next ≡ z.next + 1 → to_come qs at < to_come qs z
point-less qs z at few h e =
    let most = bit-most (eq_z (next_on at.row (rest_of qs at)) far) in
    let one = there-most at.carried in
    omega arith

module _ {qs : List Point} {work : List ℤ} {z : Sweep} (u : Underway qs work z far) where
  -- ---- A point and the right end carried cancel

  -- both go
  pub goes-cancelled : (t : ℤ) → t ≡ next_on z.row (rest_of qs z) → eq_z t z.carried ≡ true → eq_z t far ≡ false → GoesOn qs z work (cancelled z) work
  goes-cancelled t at same here = let f = first-on-row z.row (rest_of qs z) (omega order) in go f.0 f.1 f.2 f.3 f.4
    where
      go : (p : Point) (later : List Point) → rest_of qs z ≡ p ∷ later → p.y ≡ z.row → p.x ≡ next_on z.row (rest_of qs z) → GoesOn qs z work (cancelled z) work
      go p later e y x =
          let n = rest-next qs z.next e in
          let below = n.0 in
          let c : z.carried ≡ p.x = omega order in
          let w : Sweeping qs (stand (p ∷ later) z.row p.x z.opened far z.given (passed_in work z) (ahead_in qs work z)) = rw (e, c) at u.sweeping in
          record {
            kept = kept-all;
            underway = record {
              ready = u.ready;
              next-within = omega arith;
              passed-within = u.passed-within;
              ahead_within = u.ahead_within;
              carried-near = omega order;
              room = let r = u.room in omega (arith, there-none far (eq_z-refl far));
              sweeping = rw n.1 (cancels u.ready.points w y);
            };
            less = point-less qs z (cancelled z) u.ready.few below refl;
            balance = λ w. refl;
          }

  -- ---- The nearer of both is taken

  -- a point taken in hand, the sweep as it is then, and less to come
  pub record Taken (at : Sweep) (hand : ℤ) : Type 0 where
    pub going : Underway qs work at hand
    pub near : eq_z hand far ≡ false
    pub less : to_come qs at < to_come qs z
    pub same-lives : (w : ℕ → ℕ) → live_sum qs work at w ≡ live_sum qs work z w
    pub same-given : at.given ≡ z.given

  -- the point
  takes-next : (t : ℤ) → t ≡ next_on z.row (rest_of qs z) → lt_z t z.carried ≡ true → ((k : Live) → In k (ahead_in qs work z) → lt_z t k.left ≡ true) → Taken (after_point z) t
  takes-next t at first left =
      let near = u.carried-near in
      let f = first-on-row z.row (rest_of qs z) (omega order) in
      go f.0 f.1 f.2 f.3 (f.4 ∙ sym at)
    where
      go : (p : Point) (later : List Point) → rest_of qs z ≡ p ∷ later → p.y ≡ z.row → p.x ≡ t → Taken (after_point z) t
      go p later e y x =
          let near = u.carried-near in
          let n = rest-next qs z.next e in
          let below = n.0 in
          let here : eq_z t far ≡ false = omega order in
          let w : Sweeping qs (stand (p ∷ later) z.row z.carried z.opened far z.given (passed_in work z) (ahead_in qs work z)) = rw e at u.sweeping in
          let v : Sweeping qs (stand later z.row z.carried z.opened p.x z.given (passed_in work z) (ahead_in qs work z)) = takes-point u.ready.points w y (omega order) (λ k m. let l = left k m in omega order) in
          record {
            going = record {
              ready = u.ready;
              next-within = omega arith;
              passed-within = u.passed-within;
              ahead_within = u.ahead_within;
              carried-near = near;
              room = let r = u.room in omega (arith, there-one t here);
              sweeping = rw n.1 (rw x at v);
            };
            near = here;
            less = point-less qs z (after_point z) u.ready.few below refl;
            same-lives = λ w. refl;
            same-given = refl;
          }

  -- or the right end carried
  takes-end : (t : ℤ) → t ≡ next_on z.row (rest_of qs z) → eq_z t z.carried ≡ false → lt_z t z.carried ≡ false → ((k : Live) → In k (ahead_in qs work z) → lt_z z.carried k.left ≡ true) → Taken (with_carried z far) z.carried
  takes-end t at other first left =
      let n = next-near z.row (rest_of qs z) u.sweeping.rest-range in
      let here : eq_z z.carried far ≡ false = omega order in
      let one = there-one z.carried here in
      let none = there-none far (eq_z-refl far) in
      record {
        going = record {
          ready = u.ready;
          next-within = u.next-within;
          passed-within = u.passed-within;
          ahead_within = u.ahead_within;
          carried-near = omega order;
          room = let r = u.room in omega arith;
          sweeping = takes-carried u.ready.points u.sweeping (omega order) left;
        };
        near = here;
        less = omega arith;
        same-lives = λ w. refl;
        same-given = refl;
      }

  -- the nearer
  pub takes : (t : ℤ) → t ≡ next_on z.row (rest_of qs z) → eq_z t z.carried ≡ false → ((k : Live) → In k (ahead_in qs work z) → lt_z (nearer z t) k.left ≡ true) → Taken (taken_from z t) (nearer z t)
  takes t at other free = go (lt_z t z.carried) refl free
    where
      go : (b : Bool) → lt_z t z.carried ≡ b → ((k : Live) → In k (ahead_in qs work z) → lt_z (cond b t z.carried) k.left ≡ true) → Taken (cond b (after_point z) (with_carried z far)) (cond b t z.carried)
      go true e left = takes-next t at e left
      go false e left = takes-end t at other e left
