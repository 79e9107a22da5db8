-- A sweep comes to a live rectangle ahead that ends on its row: the rectangle is given, and its two ends are put.
use Rattle.std.specs.Prelude.{Some}
use mathlib.Core.Path.{◌≡◌, refl, ap}
use mathlib.Core.Logic.{◌⊎◌, inl, inr, ⊎_elim}
use Prim.Native.Nat.{ℕ, ◌+◌, ◌<◌}
use native.Mathlib.Omega.{arith}
use mathlib.Core.Bool.{Bool, true, false, cond}
use mathlib.Core.List.{List, ◌∷◌, ◌++◌}
use lib.ListN.{length}
use lib.IntN.{ℤ, ◌-ℤ◌}
use lib.Signed.{lt_z}
use mir.Syntax.{w32}
use mir.Val.{SFits}
use Rattle.plane.specs.declared.Point.{Point}
use Rattle.plane.specs.declared.Rect.{Rect}
use Rattle.plane.specs.Lists.{sum, sum_below}
use Rattle.plane.specs.Words.{eq_z, in_range, right, top, rect_in_range}
use Rattle.plane.proofs.Bools.{and-four}
use Rattle.plane.proofs.Order.{order, eq_z-refl, side-is, apart-most}
use Rattle.plane.proofs.Sums.{sum-append}
use Rattle.plane.proofs.Places.{rest-next}
use Rattle.rule.specs.Rule.{rule_list}
use Rattle.live.specs.declared.Live.{Live}
use Rattle.live.specs.Stands.{far, number, rect_no, end_of, next_on, stand, Sweeping}
use Rattle.live.proofs.Numbered.{rect-no-solid}
use Rattle.live.proofs.Shown.{live-wide, live-far}
use Rattle.live.proofs.Crossing.{Reached, carried-far, cuts, cut-at-carried, cut-at-point, cut-elsewhere}
use Rattle.sweep.specs.declared.Sweep.{Sweep}
use Rattle.sweep.specs.Inner.{nearer, after_point, with_carried, taken_from, with_opened, closed, carrying, end_put, end_put_work, cut_to, cut_work, ended_box, rest_of, passed_in, Underway, to_come, live_sum, Gives}
use Rattle.sweep.proofs.Past.{kept-all}
use Rattle.sweep.proofs.Places.{first-on-row}
use Rattle.sweep.proofs.Going.{there-one, there-none, there-most, put-ends}
use Rattle.sweep.proofs.Taking.{point-less}
use Rattle.sweep.proofs.Meeting.{Comes, reached, nearer-least, nearer-one, others, here, stands, is_live}

-- ---- The rectangle of one that ends

-- a rectangle is that between its four sides
box-is : (r : Rect) (x x' y y' : ℤ) → x ≡ r.x → x' ≡ right r → y ≡ r.y → top r ≡ y' → record { x = x; y = y; w = x' -ℤ x; h = y' -ℤ y } ≡ r
box-is r x x' y y' left right_is low high = rw (left, right_is, low, ← high) (λ i. record { x = r.x; y = r.y; w = side-is r.x r.w i; h = side-is r.y r.h i })

-- ---- Where the next one ahead ends

module _ {qs : List Point} {work : List ℤ} {z : Sweep} {t : ℤ} {k : Live} (c : Comes qs work z t) (e : reached c ≡ Some k) (over : (eq_z z.opened far ≡ false) ⊎ (lt_z (nearer z t) k.right ≡ true)) where
  -- the sweep is under way
  u : Underway qs work z far
  u = c.underway

  -- the point is where the next one of the row is
  at : t ≡ next_on z.row (rest_of qs z)
  at = c.at_next

  -- the end is not left of it
  not-left : lt_z (nearer z t) k.left ≡ false
  not-left = (here c e).2

  -- it is reached
  reaches : Reached z.opened (next_on z.row (rest_of qs z)) z.carried k
  reaches = ⊎_elim (λ (o : eq_z z.opened far ≡ false). inl o) (λ (f : lt_z (nearer z t) k.right ≡ true). inr (falls f (nearer-one c))) over
    where
      falls : lt_z (nearer z t) k.right ≡ true → (nearer z t ≡ t) ⊎ (nearer z t ≡ z.carried) → (lt_z (next_on z.row (rest_of qs z)) k.right ≡ true) ⊎ (lt_z z.carried k.right ≡ true)
      falls f (inl d) = inl (omega (order, at))
      falls f (inr d) = inr (omega order)

  -- so the row ends it
  ends-here : end_of qs k ≡ z.row
  ends-here = let l = nearer-least c in cuts u.ready.points (stands c e) (omega (order, at, not-left)) (omega (order, not-left)) (rw (← at) c.end-waits) reaches

  -- its number is of the list
  listed : number k < length (rule_list qs)
  listed = omega (arith, (is_live c e).is-given, (stands c e).given-few)

  -- its rectangle is that of the list
  rect-is : ended_box z k ≡ rect_no qs (number k)
  unfolding end_of
  rect-is = box-is (rect_no qs (number k)) k.left k.right k.row z.row (is_live c e).left_is (is_live c e).right_is (is_live c e).row_is ends-here

  -- its sides fit 32 bits
  pub sides-fit : SFits w32 (k.right -ℤ k.left) × SFits w32 (z.row -ℤ k.row)
  unfolding end_of rect_in_range
  sides-fit =
      let r : Rect = rect_no qs (number k) in
      let s = and-four (in_range r.x) (in_range r.y) (in_range (right r)) (in_range (top r)) (rect-no-solid qs u.ready.points (number k) listed).1 in
      let wide = apart-most r.x (right r) s.0 s.2 in
      let high = apart-most r.y (top r) s.1 s.3 in
      rw ((is_live c e).left_is, (is_live c e).right_is, (is_live c e).row_is, ← ends-here) (record { sfits = omega arith }, record { sfits = omega arith })

  -- its right side is left of far
  right_near : (lt_z k.left k.right ≡ true) × (lt_z k.right far ≡ true)
  right_near = (live-wide u.ready.points (stands c e).given-few (is_live c e), live-far u.ready.points (stands c e).given-few (is_live c e))

  -- without it, its number is missing
  head-gone : (w : ℕ → ℕ) → let f : Live → ℕ = λ j. w (number j) in sum f (passed_in work z ++ others c) + w (number k) ≡ live_sum qs work z w
  unfolding sum
  head-gone w = let f : Live → ℕ = λ j. w (number j) in rw (here c e).1 (omega (arith, sum-append f (passed_in work z) (others c), sum-append f (passed_in work z) (k ∷ others c)))

  -- one is live no more, and its right end is carried; with a point in hand or none, and less to come
  record Cut (y : Sweep) (hand : ℤ) : Type 0 where
    going : Underway qs work y hand
    less : to_come qs y < to_come qs z
    gone : (w : ℕ → ℕ) → live_sum qs work y w + w (number k) ≡ live_sum qs work z w
    same-given : y.given ≡ z.given

  -- its left end goes with a point there
  cut-point : lt_z t z.carried ≡ true → eq_z t k.left ≡ true → Cut (carrying (after_point z) k) far
  cut-point first same = let f = first-on-row z.row (rest_of qs z) (omega (order, at, right_near)) in go f.0 f.1 f.2 f.3 f.4
    where
      none : z.carried ≡ far
      none = carried-far u.ready.points (stands c e) (omega (order, not-left)) (omega (order, not-left))

      go : (p : Point) (later : List Point) → rest_of qs z ≡ p ∷ later → p.y ≡ z.row → p.x ≡ next_on z.row (rest_of qs z) → Cut (carrying (after_point z) k) far
      go p later d y x =
          let n = rest-next qs z.next d in
          let below = n.0 in
          let i = (here c e).0 in
          let fit = u.passed-within in
          let w : Sweeping qs (stand (p ∷ later) z.row far z.opened far z.given (passed_in work z) (k ∷ others c)) = rw (d, none) at (stands c e) in
          record {
            going = record {
              ready = u.ready;
              next-within = omega arith;
              passed-within = omega arith;
              ahead_within = omega arith;
              carried-near = omega (order, right_near);
              room = let r = u.room in omega (arith, there-most k.right, there-none far (eq_z-refl far));
              sweeping = rw n.1 (cut-at-point u.ready.points w y (omega (order, at)) ends-here);
            };
            less = point-less qs z (carrying (after_point z) k) u.ready.few below refl;
            gone = head-gone;
            same-given = refl;
          }

  -- or with the right end carried there before
  cut-carried : eq_z z.carried k.left ≡ true → Cut (carrying (with_carried z far) k) far
  cut-carried same =
      let i = (here c e).0 in
      let fit = u.passed-within in
      let d : z.carried ≡ k.left = omega order in
      let one = there-one z.carried (omega (order, right_near)) in
      let most = there-most k.right in
      let w : Sweeping qs (stand (rest_of qs z) z.row k.left z.opened far z.given (passed_in work z) (k ∷ others c)) = rw d at (stands c e) in
      record {
        going = record {
          ready = u.ready;
          next-within = u.next-within;
          passed-within = omega arith;
          ahead_within = omega arith;
          carried-near = omega (order, right_near);
          room = let r = u.room in omega (arith, there-none far (eq_z-refl far));
          sweeping = cut-at-carried u.ready.points w ends-here;
        };
        less = omega arith;
        gone = head-gone;
        same-given = refl;
      }

  -- or is in hand
  cut-in-hand : eq_z (nearer z t) k.left ≡ false → Cut (carrying z k) k.left
  cut-in-hand apart =
      let i = (here c e).0 in
      let fit = u.passed-within in
      let l = nearer-least c in
      let none : z.carried ≡ far = carried-far u.ready.points (stands c e) (omega (order, not-left)) (omega (order, not-left)) in
      let most = there-most k.right in
      let w : Sweeping qs (stand (rest_of qs z) z.row far z.opened far z.given (passed_in work z) (k ∷ others c)) = rw none at (stands c e) in
      record {
        going = record {
          ready = u.ready;
          next-within = u.next-within;
          passed-within = omega arith;
          ahead_within = omega arith;
          carried-near = omega (order, right_near);
          room = let r = u.room in omega (arith, there-most k.left);
          sweeping = cut-elsewhere u.ready.points w (omega (order, at, not-left)) ends-here;
        };
        less = omega arith;
        gone = head-gone;
        same-given = refl;
      }

  -- with none in hand, the rectangle is given
  given : {y : Sweep} → Cut y far → Gives qs z work (ended_box z k) (number k) y work
  given cut = record {
    kept = kept-all;
    underway = cut.going;
    less = cut.less;
    in_list = listed;
    rect-is = rect-is;
    balance = λ w. omega (arith, cut.gone w, ap (λ (g : ℕ). sum_below g w) cut.same-given);
  }

  -- an end that is put, and the right end carried, are told in either order
  either-order : carrying (end_put z k.left) k ≡ end_put (carrying z k) k.left
  either-order = go (eq_z z.opened far)
    where
      go : (t : Bool) → carrying (cond t (with_opened z k.left) (closed z)) k ≡ cond t (with_opened (carrying z k) k.left) (closed (carrying z k))
      go true = refl
      go false = refl

  -- it is given
  pub gives_cut : Gives qs z work (ended_box z k) (number k) (cut_to z t k) (cut_work work z t k)
  gives_cut = go (eq_z (nearer z t) k.left) refl
    where
      at_left : (b : Bool) → lt_z t z.carried ≡ b → eq_z (cond b t z.carried) k.left ≡ true → Gives qs z work (ended_box z k) (number k) (carrying (cond b (after_point z) (with_carried z far)) k) work
      at_left true f d = given (cut-point f d)
      at_left false f d = given (cut-carried d)

      go : (b : Bool) → eq_z (nearer z t) k.left ≡ b → Gives qs z work (ended_box z k) (number k) (carrying (cond b (taken_from z t) (end_put z k.left)) k) (cond b work (end_put_work work z k.left))
      go true d = at_left (lt_z t z.carried) refl d
      go false d =
          let cut = cut-in-hand d in
          let p = put-ends k.left cut.going (omega (order, right_near)) in
          rw either-order (record {
            kept = p.kept;
            underway = p.underway;
            less = rw p.as-much cut.less;
            in_list = listed;
            rect-is = rect-is;
            balance = λ w. omega (arith, p.balance w, cut.gone w, ap (λ (g : ℕ). sum_below g w) cut.same-given);
          })
