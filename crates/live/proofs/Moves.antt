-- The moves of a sweep along a row: points taken, and rectangles begun; each keeps true what a sweep keeps true.
use Prim.Native.Nat.{ℕ, ◌+◌, ◌<◌}
use native.Mathlib.Omega.{arith}
use native.Mathlib.Decide.{ℕ_discrete}
use mathlib.Core.Path.{◌≡◌, refl, sym, ap, ◌∙◌}
use mathlib.Core.Bool.{Bool, true, false, xor}
use mathlib.Core.List.Memᴰ.{head}
use mathlib.Core.List.Memᴰ.{not-nil}
use mathlib.Core.List.Memᴰ.{tail}
use mathlib.Core.List.{List, [], ◌∷◌, ◌++◌, Memᴰ as In}
use lib.ListN.{length}
use lib.IntN.{ℤ, pos}
use lib.Signed.{le_z, lt_z}
use Rattle.plane.specs.declared.Point.{Point}
use Rattle.plane.specs.Lists.{odd}
use Rattle.plane.specs.Words.{eq_z, in_range, point_in_range, rising}
use Rattle.plane.proofs.Order.{order, neg-up, range-up, eq_z-refl}
use Rattle.plane.proofs.Bools.{clash, and_parts, false-xor, xor_assoc, xor_comm, xor-left-comm, xor-back}
use Rattle.plane.proofs.Sums.{all-last-added}
use Rattle.plane.proofs.Parity.{odd-cons}
use Rattle.plane.proofs.Rising.{rising-rest, rising-along}
use Rattle.rule.specs.Rule.{left_after, rule_list}
use Rattle.rule.specs.Rows.{Accepted}
use Rattle.live.specs.declared.Live.{Live}
use Rattle.live.specs.Stands.{after_steps, rect_no, end_of, IsLive, none-live, far, first_row, Stand, stand, shows, Before, next_on, Sweeping}
use Rattle.live.proofs.NextRect.{Begins, steps-past, hand-near, begins}
use Rattle.live.proofs.Shown.{odd-far, odd-waiting, odd-taken, live-far, odd-tops-last, apart-between, next-near, next-first, shows-parts, shows-rest}

-- ---- The start

-- a number in range is above a sweep's first row
from-below : (z : ℤ) → in_range z ≡ true → le_z first_row z ≡ true
from-below z e = let h = range-up z e in omega (order, neg-up 1_999_999_999)

-- ---- Points to come

-- the points to come after a move: in order, of those before it, and all of those above the row
pub record Fewer (row : ℤ) (rest rest' : List Point) : Type 0 where
  pub still-rising : rising rest' ≡ true
  pub still-of : (q : Point) → In q rest' → In q rest
  pub still-all : (q : Point) → In q rest → lt_z row q.y ≡ true → In q rest'

-- all stay
pub all_stay : {row : ℤ} {rest : List Point} → rising rest ≡ true → Fewer row rest rest
all_stay r = record { still-rising = r; still-of = λ q m. m; still-all = λ q m h. m }

-- a point of the row goes
pub one-goes : {row : ℤ} {rest : List Point} {p : Point} → rising (p ∷ rest) ≡ true → p.y ≡ row → Fewer row (p ∷ rest) rest
unfolding rising
one-goes {row} {rest} {p} r e = record { still-rising = rising-rest p rest r; still-of = λ q m. tail m; still-all = λ q m h. go q h m }
  where
    go : (q : Point) → lt_z row q.y ≡ true → In q (p ∷ rest) → In q rest
    go q h (head d) = let f : q.y ≡ p.y = ap (λ (r : Point). r.y) d in absurd (omega order)
    go q h (tail m) = m

-- ---- What waits

-- the points that wait stand in order among all that is on the row
record Ordered (s : Stand) : Type 0 where
  carried-after : (k : Live) → In k s.passed → le_z k.right s.carried ≡ true
  opened_after : (k : Live) → In k s.passed → le_z k.right s.opened ≡ true
  hand-after : (k : Live) → In k s.passed → le_z k.right s.hand ≡ true
  opened-before : eq_z s.opened far ≡ false → Before s s.opened × (lt_z s.opened s.carried ≡ true) × (lt_z s.opened s.hand ≡ true)
  hand-before : eq_z s.hand far ≡ false → Before s s.hand × (lt_z s.hand s.carried ≡ true)
  carried-before : eq_z s.carried far ≡ false → (k : Live) → In k s.ahead → le_z s.carried k.left ≡ true

-- a move that only takes points, or changes which of them wait
moves : {ps rest rest' : List Point} {row c o h c' o' h' : ℤ} {g : ℕ} {A B : List Live} → let s = stand rest row c o h g A B in let t = stand rest' row c' o' h' g A B in Sweeping ps s → Fewer row rest rest' → ((f : Point → Bool) → shows ps s f ≡ shows ps t f) → Ordered t → Sweeping ps t
moves w few as-shown waits = record {
  rest-rising = few.still-rising;
  rest-range = λ q m. w.rest-range q (few.still-of q m);
  rest_from = λ q m. w.rest_from q (few.still-of q m);
  rest_all = λ q m h. few.still-all q (w.rest_all q m h) h;
  shown = λ f. w.shown f ∙ as-shown f;
  begun = w.begun;
  given-few = w.given-few;
  passed-live = w.passed-live;
  ahead-live = w.ahead-live;
  passed_over = w.passed_over;
  ahead-below = w.ahead-below;
  ahead-over = w.ahead-over;
  steady = w.steady;
  apart = w.apart;
  passed-rest = λ k m q n. w.passed-rest k m q (few.still-of q n);
  passed-carried = waits.carried-after;
  passed-opened = waits.opened_after;
  passed-hand = waits.hand-after;
  opened-first = waits.opened-before;
  hand_first = waits.hand-before;
  carried_first = waits.carried-before;
}

-- what was left of all to come on the row is so still
before-fewer : {rest rest' : List Point} {row c o h c' o' h' x : ℤ} {g : ℕ} {A B : List Live} → Fewer row rest rest' → Before (stand rest row c o h g A B) x → Before (stand rest' row c' o' h' g A B) x
before-fewer few b = record { before-rest = λ q m e. b.before-rest q (few.still-of q m) e; before-ahead = b.before-ahead }

-- ---- A rectangle that begins

-- of the four corners that it toggles the lower two go with those that wait, and the upper two come
lower-go : (hm om h o r a b c : Bool) → xor hm (xor om (xor h (xor o (xor r (xor a (xor b (xor c (xor o h)))))))) ≡ xor r (xor (xor a (xor om hm)) (xor b (xor c (xor false false))))
lower-go hm om h o r a b c = simp (xor_assoc, xor-left-comm, xor_comm, xor-back, false-xor)

-- ---- The moves

module _ {ps : List Point} (acc : Accepted ps) where
  -- a sweep of points in order starts below all rows
  pub starts : rising ps ≡ true → Sweeping ps (stand ps first_row far far far 0 [] [])
  unfolding left_after point_in_range
  starts in_order = record {
    rest-rising = in_order;
    rest-range = acc.range;
    rest_from = λ q m. from-below q.y (and_parts (in_range q.x) (in_range q.y) (acc.range q m)).1;
    rest_all = λ q m h. m;
    shown = λ f. sym (shows-rest f ps ps first_row 0);
    begun = λ i h. absurd (omega arith);
    given-few = omega arith;
    passed-live = λ k m. absurd (not-nil m);
    ahead-live = λ k m. absurd (not-nil m);
    passed_over = λ k m. absurd (not-nil m);
    ahead-below = λ k m. absurd (not-nil m);
    ahead-over = λ k m. absurd (not-nil m);
    steady = λ k m. absurd (not-nil m);
    apart = none-live;
    passed-rest = λ k m. absurd (not-nil m);
    passed-carried = λ k m. absurd (not-nil m);
    passed-opened = λ k m. absurd (not-nil m);
    passed-hand = λ k m. absurd (not-nil m);
    opened-first = λ e. clash (eq_z-refl far) e;
    hand_first = λ e. clash (eq_z-refl far) e;
    carried_first = λ e. clash (eq_z-refl far) e;
  }

  -- a point where the right end carried is: both go
  pub cancels : {rest : List Point} {row o : ℤ} {g : ℕ} {A B : List Live} {p : Point} → Sweeping ps (stand (p ∷ rest) row p.x o far g A B) → p.y ≡ row → Sweeping ps (stand rest row far o far g A B)
  cancels {rest} {row} {o} {g} {A} {B} {p} w e =
      let few : Fewer row (p ∷ rest) rest = one-goes w.rest-rising e in
      moves w few as-shown (record {
        carried-after = λ k m. w.passed-hand k m;
        opened_after = w.passed-opened;
        hand-after = w.passed-hand;
        opened-before = λ d. let b = w.opened-first d in (before-fewer few b.0, b.2, b.2);
        hand-before = λ d. clash (eq_z-refl far) d;
        carried-before = λ d. clash (eq_z-refl far) d;
      })
    where
      as-shown : (f : Point → Bool) → shows ps (stand (p ∷ rest) row p.x o far g A B) f ≡ shows ps (stand rest row far o far g A B) f
      as-shown f =
          shows-parts f ps (p ∷ rest) row p.x o far g A B
          ∙ rw (odd-cons f p rest, odd-taken f p row (w.rest-range p (head refl)) e, odd-far f row) (simp (xor_assoc, xor-left-comm, xor-back, false-xor))
          ∙ sym (shows-parts f ps rest row far o far g A B)

  -- the next point of the row is taken in hand
  pub takes-point : {rest : List Point} {row c o : ℤ} {g : ℕ} {A B : List Live} {p : Point} → Sweeping ps (stand (p ∷ rest) row c o far g A B) → p.y ≡ row → lt_z p.x c ≡ true → ((k : Live) → In k B → lt_z p.x k.left ≡ true) → Sweeping ps (stand rest row c o p.x g A B)
  takes-point {rest} {row} {c} {o} {g} {A} {B} {p} w e h f =
      let few : Fewer row (p ∷ rest) rest = one-goes w.rest-rising e in
      moves w few as-shown (record {
        carried-after = w.passed-carried;
        opened_after = w.passed-opened;
        hand-after = λ k m. w.passed-rest k m p (head refl) e;
        opened-before = λ d. let b = w.opened-first d in (before-fewer few b.0, b.1, b.0.before-rest p (head refl) e);
        hand-before = λ d. (record { before-rest = further-on; before-ahead = f }, h);
        carried-before = w.carried_first;
      })
    where
      further-on : (q : Point) → In q rest → q.y ≡ row → lt_z p.x q.x ≡ true
      further-on q m d = rising-along p w.rest-rising m (d ∙ sym e)

      as-shown : (t : Point → Bool) → shows ps (stand (p ∷ rest) row c o far g A B) t ≡ shows ps (stand rest row c o p.x g A B) t
      as-shown t =
          shows-parts t ps (p ∷ rest) row c o far g A B
          ∙ rw (odd-cons t p rest, odd-taken t p row (w.rest-range p (head refl)) e, odd-far t row) (simp (xor_assoc, xor-left-comm, xor_comm, false-xor))
          ∙ sym (shows-parts t ps rest row c o p.x g A B)

  -- or the right end that is carried
  pub takes-carried : {rest : List Point} {row c o : ℤ} {g : ℕ} {A B : List Live} → Sweeping ps (stand rest row c o far g A B) → lt_z c (next_on row rest) ≡ true → ((k : Live) → In k B → lt_z c k.left ≡ true) → Sweeping ps (stand rest row far o c g A B)
  takes-carried {rest} {row} {c} {o} {g} {A} {B} w h f =
      moves w (all_stay w.rest-rising) as-shown (record {
        carried-after = w.passed-hand;
        opened_after = w.passed-opened;
        hand-after = w.passed-carried;
        opened-before = λ d. let b = w.opened-first d in (before-fewer (all_stay w.rest-rising) b.0, b.2, b.1);
        hand-before = λ d. (record { before-rest = further-on; before-ahead = f }, let n = next-near row rest w.rest-range in omega order);
        carried-before = λ d. clash (eq_z-refl far) d;
      })
    where
      further-on : (q : Point) → In q rest → q.y ≡ row → lt_z c q.x ≡ true
      further-on q m d = let n = next-first row rest w.rest-rising w.rest_from q m d in omega order

      as-shown : (t : Point → Bool) → shows ps (stand rest row c o far g A B) t ≡ shows ps (stand rest row far o c g A B) t
      as-shown t =
          shows-parts t ps rest row c o far g A B
          ∙ rw (odd-far t row) (simp (xor_comm, false-xor))
          ∙ sym (shows-parts t ps rest row far o c g A B)

  -- the point in hand is the left end of a rectangle that begins
  pub opens : {rest : List Point} {row c : ℤ} {g : ℕ} {A B : List Live} {h : ℤ} → Sweeping ps (stand rest row c far h g A B) → eq_z h far ≡ false → Sweeping ps (stand rest row c h far g A B)
  opens {rest} {row} {c} {g} {A} {B} {h} w e =
      moves w (all_stay w.rest-rising) as-shown (record {
        carried-after = w.passed-carried;
        opened_after = w.passed-hand;
        hand-after = w.passed-opened;
        opened-before = λ d. let b = w.hand_first e in (before-fewer (all_stay w.rest-rising) b.0, b.1, hand-near acc w e);
        hand-before = λ d. clash (eq_z-refl far) d;
        carried-before = w.carried_first;
      })
    where
      as-shown : (t : Point → Bool) → shows ps (stand rest row c far h g A B) t ≡ shows ps (stand rest row c h far g A B) t
      as-shown t =
          shows-parts t ps rest row c far h g A B
          ∙ rw (odd-far t row) (simp (xor_comm, false-xor))
          ∙ sym (shows-parts t ps rest row c h far g A B)

  -- or the right end of the one that is open, which is the next of the list
  pub closes : {rest : List Point} {row c o : ℤ} {g : ℕ} {A B : List Live} {h : ℤ} → Sweeping ps (stand rest row c o h g A B) → eq_z o far ≡ false → eq_z h far ≡ false → (g < length (rule_list ps)) × Sweeping ps (stand rest row c far far (g + 1) (A ++ (record { left = o; right = h; row = row; place = pos g } ∷ [])) B)
  unfolding end_of
  closes {rest} {row} {c} {o} {g} {A} {B} {h} w e d = (
    b.in_list,
    record {
      rest-rising = w.rest-rising;
      rest-range = w.rest-range;
      rest_from = w.rest_from;
      rest_all = w.rest_all;
      shown = as-shown;
      begun = λ i l. begun-at i l (ℕ_discrete i g);
      given-few = omega (arith, b.in_list);
      passed-live = each (IsLive ps (g + 1)) (λ k m. longer (w.passed-live k m)) is_live;
      ahead-live = λ k m. longer (w.ahead-live k m);
      passed_over = each (λ k. lt_z row (end_of ps k) ≡ true) w.passed_over b.ends_above;
      ahead-below = w.ahead-below;
      ahead-over = w.ahead-over;
      steady = λ k m z from to. steps-past b (w.opened-first e).2 z (let l = (w.hand_first d).0.before-ahead k m in omega order) ∙ w.steady k m z from to;
      apart = apart-between A B new w.apart w.passed-opened (λ j m. let l = (w.hand_first d).0.before-ahead j m in omega order);
      passed-rest = each (λ k. (q : Point) → In q rest → q.y ≡ row → le_z k.right q.x ≡ true) w.passed-rest (λ q m y. let l = (w.hand_first d).0.before-rest q m y in omega order);
      passed-carried = each (λ k. le_z k.right c ≡ true) w.passed-carried (let l = (w.hand_first d).1 in omega order);
      passed-opened = right_near;
      passed-hand = right_near;
      opened-first = λ f. clash (eq_z-refl far) f;
      hand_first = λ f. clash (eq_z-refl far) f;
      carried_first = w.carried_first;
    },
  )
    where
      new : Live
      new = record { left = o; right = h; row = row; place = pos g }

      b : Begins ps g row o h
      b = begins acc w d e

      each : (P : Live → Type 0) → ((k : Live) → In k A → P k) → P new → (k : Live) → In k (A ++ (new ∷ [])) → P k
      each P = all-last-added P A new

      begun-at : (i : ℕ) → i < g + 1 → Dec (i ≡ g) → le_z (rect_no ps i).y row ≡ true
      begun-at i l (yes same-no) = let y = b.row_at in rw same-no (omega order)
      begun-at i l (no other) = w.begun i (omega arith)

      longer : {k : Live} → IsLive ps g k → IsLive ps (g + 1) k
      longer l = record { place_is = l.place_is; is-given = omega (arith, l.is-given); left_is = l.left_is; right_is = l.right_is; row_is = l.row_is }

      is_live : IsLive ps (g + 1) new
      is_live = record { place_is = refl; is-given = omega arith; left_is = sym b.left_at; right_is = sym b.right-at; row_is = sym b.row_at }

      right_near : (k : Live) → In k (A ++ (new ∷ [])) → le_z k.right far ≡ true
      right_near = each (λ k. le_z k.right far ≡ true) (λ k m. let l = live-far acc w.given-few (w.passed-live k m) in omega order) (let l = hand-near acc w d in omega order)

      as-shown : (f : Point → Bool) → odd f (after_steps ps (g + 1)) ≡ shows ps (stand rest row c far far (g + 1) (A ++ (new ∷ [])) B) f
      as-shown f =
          b.odd-next f
          ∙ rw (w.shown f, shows-parts f ps rest row c o h g A B, odd-waiting f o row e, odd-waiting f h row d, odd-far f row, odd-tops-last f ps A new) (lower-go _ _ _ _ _ _ _ _)
          ∙ sym (shows-parts f ps rest row c far far (g + 1) (A ++ (new ∷ [])) B)
