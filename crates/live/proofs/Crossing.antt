-- A sweep that comes to a live rectangle, passes it or ends it, and turns to the next row or ends: each keeps true what a sweep keeps true.
use Prim.Native.Nat.{ℕ}
use mathlib.Core.Path.{◌≡◌, refl, sym, ap, subst, ◌∙◌}
use mathlib.Core.Logic.{◌⊎◌, inl, inr, ⊎_elim}
use mathlib.Core.Bool.{Bool, true, false, xor}
use mathlib.Core.List.Memᴰ.{head}
use mathlib.Core.List.Memᴰ.{not-nil}
use mathlib.Core.List.Memᴰ.{tail}
use mathlib.Core.List.{List, [], ◌∷◌, ◌++◌, append-nil, append_assoc, Memᴰ as In}
use lib.ListN.{length}
use lib.IntN.{ℤ, pos, ◌+ℤ◌}
use lib.Signed.{le_z, lt_z}
use Rattle.plane.specs.declared.Point.{Point}
use Rattle.plane.specs.Lists.{odd}
use Rattle.plane.specs.Words.{eq_z, on_row}
use Rattle.plane.proofs.Order.{order, next_up, eq_z-is, eq_z-refl}
use Rattle.plane.proofs.Bools.{by-no, clash, xor_self, xor-false, false-xor, xor-back, xor_assoc, xor-left-comm, xor_comm}
use Rattle.plane.proofs.Sums.{all-last-added}
use Rattle.plane.proofs.Parity.{odd-cons, odd-none-of, odd-none}
use Rattle.plane.proofs.Points.{after-row}
use Rattle.plane.proofs.Alike.{even-none}
use Rattle.plane.proofs.Rising.{rising-least}
use Rattle.rule.specs.Rule.{left_of, rule_list}
use Rattle.rule.specs.Rows.{Accepted}
use Rattle.live.specs.declared.Live.{Live}
use Rattle.live.specs.Stands.{after_steps, number, end_of, IsLive, Apart, far, Stand, stand, Before, waiting, next_on, Sweeping}
use Rattle.live.proofs.Numbered.{after-accepted, all_made, top-on-row}
use Rattle.live.proofs.Columns.{is-left, none_left}
use Rattle.live.proofs.Steady.{steady-over}
use Rattle.live.proofs.Shown.{odd-far, odd-waiting, odd-waiting-points, waiting-none-left, live-listed, odd-tops, odd-tops-last, tops-even, apart-left, apart-right, apart-without, next-far, next-first, next-odd, shows-rest}
use Rattle.live.proofs.Moves.{Fewer, all_stay, one-goes}
use Rattle.live.proofs.Width.{left_here, sides, even-below, goes-on-over}

-- ---- What ends a live rectangle, and what comes of its left end

-- something is open, or something to come falls into it: the next point, or the right end carried
abbrev pub Reached : (opened next carried : ℤ) → Live → Type 0
Reached opened next carried k = (eq_z opened far ≡ false) ⊎ ((lt_z next k.right ≡ true) ⊎ (lt_z carried k.right ≡ true))

-- what comes of the left end x of one that ends: it goes with a point to come or with the right end carried there, or is in hand
record LeftEnd (row x c : ℤ) (rest rest' : List Point) (h : ℤ) : Type 0 where
  fewer : Fewer row rest rest'
  put : (f : Point → Bool) → xor (odd f rest) (xor (f (record { x = x; y = row })) (odd f (waiting c row))) ≡ xor (odd f rest') (odd f (waiting h row))
  hand-is : (h ≡ far) ⊎ ((h ≡ x) × (lt_z h (next_on row rest') ≡ true))

module _ {ps : List Point} (acc : Accepted ps) where
  -- ---- The next one ahead goes on

  -- one ahead with nothing open and nothing to come over its width is passed
  pub keeps : {rest : List Point} {row c : ℤ} {g : ℕ} {A B : List Live} {k : Live} → Sweeping ps (stand rest row c far far g A (k ∷ B)) → le_z k.right (next_on row rest) ≡ true → le_z k.right c ≡ true → Sweeping ps (stand rest row c far far g (A ++ (k ∷ [])) B)
  keeps {rest} {row} {c} {g} {A} {B} {k} w h f = record {
    rest-rising = w.rest-rising;
    rest-range = w.rest-range;
    rest_from = w.rest_from;
    rest_all = w.rest_all;
    shown = λ t. w.shown t ∙ rw (odd-tops-last t ps A k, odd-tops t ps k B) (ap (xor (odd t rest)) (shift _ _ _ _ _));
    begun = w.begun;
    given-few = w.given-few;
    passed-live = each (IsLive ps g) w.passed-live (w.ahead-live k (head refl));
    ahead-live = λ j m. w.ahead-live j (tail m);
    passed_over = each (λ j. lt_z row (end_of ps j) ≡ true) w.passed_over (goes-on-over acc w even);
    ahead-below = λ j m. w.ahead-below j (tail m);
    ahead-over = λ j m. w.ahead-over j (tail m);
    steady = λ j m. w.steady j (tail m);
    apart = subst Apart (sym (append_assoc A (k ∷ []) B)) w.apart;
    passed-rest = each (λ j. (q : Point) → In q rest → q.y ≡ row → le_z j.right q.x ≡ true) w.passed-rest (beyond k.right (omega order));
    passed-carried = each (λ j. le_z j.right c ≡ true) w.passed-carried f;
    passed-opened = each (λ j. le_z j.right far ≡ true) w.passed-opened near;
    passed-hand = each (λ j. le_z j.right far ≡ true) w.passed-hand near;
    opened-first = λ e. clash (eq_z-refl far) e;
    hand_first = λ e. clash (eq_z-refl far) e;
    carried_first = λ e j m. w.carried_first e j (tail m);
  }
    where
      each : (P : Live → Type 0) → ((j : Live) → In j A → P j) → P k → (j : Live) → In j (A ++ (k ∷ [])) → P j
      each P = all-last-added P A k

      near : le_z k.right far ≡ true
      near = let s = sides acc w k (head refl) in omega order

      beyond : (b : ℤ) → le_z b k.right ≡ true → (q : Point) → In q rest → q.y ≡ row → le_z b q.x ≡ true
      beyond b to q m e = let n = next-first row rest w.rest-rising w.rest_from q m e in omega order

      even : (b : ℤ) → le_z k.left b ≡ true → le_z b k.right ≡ true → left_here b row rest c far ≡ false
      even b from to = rw (none_left b row rest (beyond b to), waiting-none-left b c row (omega order), odd-far (left_of b row) row) (xor-back false false)

      shift : (a l r b h : Bool) → xor a (xor (xor l (xor r b)) h) ≡ xor (xor a (xor l r)) (xor b h)
      shift a l r b h = simp xor_assoc

  -- ---- The next one ahead ends

  -- the right end carried is at the left side of the next one ahead, or there is none
  pub carried-far : {rest : List Point} {row c o : ℤ} {g : ℕ} {A B : List Live} {k : Live} → Sweeping ps (stand rest row c o far g A (k ∷ B)) → lt_z c k.left ≡ false → eq_z c k.left ≡ false → c ≡ far
  carried-far {c = c} {k = k} w h d = go (eq_z c far) refl
    where
      go : (t : Bool) → eq_z c far ≡ t → c ≡ far
      go true e = eq_z-is c far e
      go false e = let n = w.carried_first e k (head refl) in absurd (omega order)

  -- one that is reached ends on this row
  pub cuts : {rest : List Point} {row c o : ℤ} {g : ℕ} {A B : List Live} {k : Live} → Sweeping ps (stand rest row c o far g A (k ∷ B)) → lt_z (next_on row rest) k.left ≡ false → lt_z c k.left ≡ false → eq_z (next_on row rest) c ≡ false → Reached o (next_on row rest) c k → end_of ps k ≡ row
  cuts {rest} {row} {c} {o} {g} {A} {B} {k} w h f d over =
      let reach = w.ahead-over k (head refl) in
      let not-below : lt_z row (end_of ps k) ≡ false = by-no (lt_z row (end_of ps k)) (λ e. go e (eq_z o far) refl (lt_z (next_on row rest) c) refl over) in
      omega order
    where
      next : ℤ
      next = next_on row rest

      narrow : (lt_z k.left k.right ≡ true) × (lt_z k.right far ≡ true)
      narrow = sides acc w k (head refl)

      to-come : (b : ℤ) → le_z b next ≡ true → odd (left_of b row) rest ≡ false
      to-come b s = none_left b row rest (λ q m e. let n = next-first row rest w.rest-rising w.rest_from q m e in omega order)

      odd-somewhere : lt_z row (end_of ps k) ≡ true → (b : ℤ) → le_z k.left b ≡ true → le_z b k.right ≡ true → left_here b row rest c o ≡ true → ⊥
      odd-somewhere e b from to y = clash y (even-below acc w e b from to)

      waits : (x b : ℤ) → eq_z x far ≡ false → lt_z x b ≡ true → odd (left_of b row) (waiting x row) ≡ true
      waits x b n s = odd-waiting (left_of b row) x row n ∙ is-left b row (record { x = x; y = row }) refl s

      go : lt_z row (end_of ps k) ≡ true → (t : Bool) → eq_z o far ≡ t → (u : Bool) → lt_z next c ≡ u → Reached o next c k → ⊥
      go e false n u s v =
          let first = (w.opened-first n).0.before-ahead k (head refl) in
          let a = narrow in
          odd-somewhere e k.left (omega order) (omega order) (rw (to-come k.left (omega order), waiting-none-left k.left c row (omega order), waits o k.left n first) (simp false-xor))
      go e true n u s (inl v) = clash n v
      go e true n true s (inr v) =
          let b : ℤ = next +ℤ pos 1 in
          let a = narrow in
          let inside : lt_z next k.right ≡ true = ⊎_elim (λ (i : lt_z next k.right ≡ true). i) (λ (i : lt_z c k.right ≡ true). omega order) v in
          odd-somewhere e b (omega (order, next_up next)) (omega (order, next_up next)) (rw (next-odd row rest w.rest-rising (omega order), waiting-none-left b c row (omega (order, next_up next)), waiting-none-left b o row (omega (order, next_up next))) (simp xor-false))
      go e true n false s (inr v) =
          let b : ℤ = c +ℤ pos 1 in
          let a = narrow in
          let inside : lt_z c k.right ≡ true = ⊎_elim (λ (i : lt_z next k.right ≡ true). omega order) (λ (i : lt_z c k.right ≡ true). i) v in
          odd-somewhere e b (omega (order, next_up c)) (omega (order, next_up c)) (rw (to-come b (omega (order, next_up c)), waits c b (omega order) (omega (order, next_up c)), waiting-none-left b o row (omega (order, next_up c))) (simp (false-xor, xor-false)))

  -- one that ends goes, and its right end is carried
  cut : {rest rest' : List Point} {row c o h : ℤ} {g : ℕ} {A B : List Live} {k : Live} → Sweeping ps (stand rest row c o far g A (k ∷ B)) → end_of ps k ≡ row → LeftEnd row k.left c rest rest' h → Sweeping ps (stand rest' row k.right o h g A B)
  cut {rest} {rest'} {row} {c} {o} {h} {g} {A} {B} {k} w e left_end = record {
    rest-rising = few.still-rising;
    rest-range = λ q m. w.rest-range q (few.still-of q m);
    rest_from = from;
    rest_all = λ q m above-row. few.still-all q (w.rest_all q m above-row) above-row;
    shown = λ f. w.shown f ∙ rw (odd-tops f ps k B, e, odd-waiting-points f c o far row, odd-waiting-points f k.right o h row, odd-far f row, odd-waiting f k.right row (let s = narrow in omega order)) (trade _ _ _ _ _ _ _ _ _ (left_end.put f));
    begun = w.begun;
    given-few = w.given-few;
    passed-live = w.passed-live;
    ahead-live = λ j m. w.ahead-live j (tail m);
    passed_over = w.passed_over;
    ahead-below = λ j m. w.ahead-below j (tail m);
    ahead-over = λ j m. w.ahead-over j (tail m);
    steady = λ j m. w.steady j (tail m);
    apart = apart-without k B A w.apart;
    passed-rest = λ j m q n. w.passed-rest j m q (few.still-of q n);
    passed-carried = λ j m. let s = narrow in omega (order, apart-left k B A w.apart j m);
    passed-opened = w.passed-opened;
    passed-hand = λ j m. let s = hand-from in omega (order, apart-left k B A w.apart j m);
    opened-first = λ d.
        let s = narrow in
        let n = hand-from in
        let u = (w.opened-first d).0 in
        let v = u.before-ahead k (head refl) in
        (record { before-rest = λ q m. u.before-rest q (few.still-of q m); before-ahead = λ j m. u.before-ahead j (tail m) }, omega order, omega order);
    hand_first = λ d. ⊎_elim (λ f. absurd (omega order)) at-hand left_end.hand-is;
    carried_first = λ d j m. apart-right k B A w.apart j m;
  }
    where
      few : Fewer row rest rest'
      few = left_end.fewer

      narrow : (lt_z k.left k.right ≡ true) × (lt_z k.right far ≡ true)
      narrow = sides acc w k (head refl)

      from : (q : Point) → In q rest' → le_z row q.y ≡ true
      from q m = w.rest_from q (few.still-of q m)

      hand-from : le_z k.left h ≡ true
      hand-from = let s = narrow in ⊎_elim (λ (f : h ≡ far). omega order) (λ (f : (h ≡ k.left) × (lt_z h (next_on row rest') ≡ true)). omega order) left_end.hand-is

      at-hand : (h ≡ k.left) × (lt_z h (next_on row rest') ≡ true) → Before (stand rest' row k.right o h g A B) h × (lt_z h k.right ≡ true)
      at-hand f =
          let s = narrow in
          (record { before-rest = λ q m d. omega (order, next-first row rest' few.still-rising from q m d); before-ahead = λ j m. omega (order, apart-right k B A w.apart j m) }, omega order)

      trade : (r r' p a b t c o h : Bool) → xor r (xor a c) ≡ xor r' h → xor r (xor p (xor (xor a (xor b t)) (xor c (xor o false)))) ≡ xor r' (xor p (xor t (xor b (xor o h))))
      trade r r' p a b t c o h d =
          let gather : xor r (xor p (xor (xor a (xor b t)) (xor c (xor o false)))) ≡ xor (xor r (xor a c)) (xor p (xor t (xor b o))) = simp (xor_assoc, xor-left-comm, xor_comm, false-xor) in
          gather ∙ ap (λ s. xor s (xor p (xor t (xor b o)))) d ∙ simp (xor_assoc, xor-left-comm, xor_comm)

  -- it goes, and its right end is carried; its left end goes with the right end carried there before
  pub cut-at-carried : {rest : List Point} {row o : ℤ} {g : ℕ} {A B : List Live} {k : Live} → Sweeping ps (stand rest row k.left o far g A (k ∷ B)) → end_of ps k ≡ row → Sweeping ps (stand rest row k.right o far g A B)
  cut-at-carried {rest} {row} {k = k} w e =
      let s = sides acc w k (head refl) in
      cut w e (record {
        fewer = all_stay w.rest-rising;
        put = λ f. rw (odd-waiting f k.left row (omega order), odd-far f row) (ap (xor (odd f rest)) (xor_self _));
        hand-is = inl refl;
      })

  -- or with a point there
  pub cut-at-point : {rest : List Point} {row o : ℤ} {g : ℕ} {A B : List Live} {k : Live} {p : Point} → Sweeping ps (stand (p ∷ rest) row far o far g A (k ∷ B)) → p.y ≡ row → p.x ≡ k.left → end_of ps k ≡ row → Sweeping ps (stand rest row k.right o far g A B)
  cut-at-point {rest} {row} {k = k} {p = p} w e d f = cut w f (record { fewer = one-goes w.rest-rising e; put = λ t. rw (odd-cons t p rest, corner t, odd-far t row) (both _ _); hand-is = inl refl })
    where
      corner : (t : Point → Bool) → t p ≡ t (record { x = k.left; y = row })
      corner t = ap t (λ i. record { x = d i; y = e i })

      both : (a r : Bool) → xor (xor a r) (xor a false) ≡ xor r false
      both a r = simp (xor_assoc, xor-left-comm, xor-back)

  -- or is in hand
  pub cut-elsewhere : {rest : List Point} {row o : ℤ} {g : ℕ} {A B : List Live} {k : Live} → Sweeping ps (stand rest row far o far g A (k ∷ B)) → lt_z k.left (next_on row rest) ≡ true → end_of ps k ≡ row → Sweeping ps (stand rest row k.right o k.left g A B)
  cut-elsewhere {rest} {row} {k = k} w h e =
      let s = sides acc w k (head refl) in
      cut w e (record {
        fewer = all_stay w.rest-rising;
        put = λ f. rw (odd-waiting f k.left row (omega order), odd-far f row, xor-false);
        hand-is = inr (refl, h);
      })

  -- ---- The row is done

  -- where all that is to come is above the row, nothing is open
  none_open : {rest : List Point} {row o : ℤ} {g : ℕ} {A B : List Live} → Sweeping ps (stand rest row far o far g A B) → ((q : Point) → In q rest → lt_z row q.y ≡ true) → o ≡ far
  unfolding on_row
  none_open {rest} {row} {o} {g} {A} {B} w over = go (eq_z o far) refl
    where
      f : Point → Bool
      f = on_row row

      go : (t : Bool) → eq_z o far ≡ t → o ≡ far
      go true e = eq_z-is o far e
      go false e =
          let come : odd f rest ≡ false = odd-none f rest (λ q m. let h = over q m in omega order) in
          let even : odd f (after_steps ps g) ≡ false = (after-accepted ps acc g).rows row in
          let shows-one : odd f (after_steps ps g) ≡ true = w.shown f ∙ rw (come, tops-even ps row A, tops-even ps row B, odd-waiting-points f far o far row, odd-far f row, odd-waiting f o row e, eq_z-refl row) (simp (false-xor, xor-false)) in
          clash shows-one even

  -- some ahead, all of them left of what is to come on the row, are passed
  keeps-all : {rest : List Point} {row : ℤ} {g : ℕ} {A : List Live} (C D : List Live) → Sweeping ps (stand rest row far far far g A (C ++ D)) → ((k : Live) → In k C → le_z k.right (next_on row rest) ≡ true) → Sweeping ps (stand rest row far far far g (A ++ C) D)
  keeps-all {rest} {row} {g} {A} [] D w h = subst (λ (K : List Live). Sweeping ps (stand rest row far far far g K D)) (sym (append-nil A)) w
  keeps-all {rest} {row} {g} {A} (k ∷ C) D w h =
      let s = sides acc w k (head refl) in
      subst (λ (K : List Live). Sweeping ps (stand rest row far far far g K D)) (append_assoc A (k ∷ []) C) (keeps-all C D (keeps w (h k (head refl)) (omega order)) (λ j m. h j (tail m)))

  -- where all that is to come is above the row, nothing is open and those ahead are passed
  row_done : {rest : List Point} {row o : ℤ} {g : ℕ} {A B : List Live} → Sweeping ps (stand rest row far o far g A B) → ((q : Point) → In q rest → lt_z row q.y ≡ true) → (o ≡ far) × Sweeping ps (stand rest row far far far g (A ++ B) [])
  row_done {rest} {row} {o} {g} {A} {B} w over =
      let e : o ≡ far = none_open w over in
      let open_none : Sweeping ps (stand rest row far far far g A B) = subst (λ x. Sweeping ps (stand rest row far x far g A B)) e w in
      let n : next_on row rest ≡ far = next-far row rest over in
      (e, keeps-all B [] (subst (λ (K : List Live). Sweeping ps (stand rest row far far far g A K)) (sym (append-nil B)) open_none) (λ k m. let s = sides acc w k m in omega order))

  -- the row where one that is passed ends is of a point to come
  end-to-come : {s : Stand} → Sweeping ps s → (k : Live) → In k s.passed → (q : Point) × In q s.rest × (q.y ≡ end_of ps k)
  unfolding end_of
  end-to-come w k m =
      let l = w.passed-live k m in
      let over = w.passed_over k m in
      let t = top-on-row ps acc (number k) (live-listed acc w.given-few l) in
      let e = t.2 in
      (t.0, w.rest_all t.0 t.1 (omega order), e)

  -- a row that is done, and the next point's row: all are ahead
  next_row : {rest : List Point} {row : ℤ} {g : ℕ} {A : List Live} {p : Point} → Sweeping ps (stand (p ∷ rest) row far far far g A []) → lt_z row p.y ≡ true → Sweeping ps (stand (p ∷ rest) p.y far far far g [] A)
  unfolding end_of
  next_row {rest} {row} {g} {A} {p} w higher = record {
    rest-rising = w.rest-rising;
    rest-range = w.rest-range;
    rest_from = from;
    rest_all = λ q m h. w.rest_all q m (omega order);
    shown = λ f. w.shown f ∙ rw (odd-waiting-points f far far far row, odd-waiting-points f far far far p.y, odd-far f row, odd-far f p.y) (ap (xor (odd f (p ∷ rest))) (xor-left-comm _ _ _));
    begun = λ i h. omega (order, w.begun i h);
    given-few = w.given-few;
    passed-live = λ k m. absurd (not-nil m);
    ahead-live = w.passed-live;
    passed_over = λ k m. absurd (not-nil m);
    ahead-below = λ k m. let l = w.passed-live k m in omega (order, w.begun (number k) l.is-given, l.row_is);
    ahead-over = reach;
    steady = λ k m b left right.
        let l = w.passed-live k m in
        let left_is = l.left_is in
        let right_is = l.right_is in
        steady-over ps acc (number k) g l.is-given w.given-few p.y (reach k m) (λ j h. omega (order, w.begun j h)) b (omega order) (omega order);
    apart = subst Apart (append-nil A) w.apart;
    passed-rest = λ k m. absurd (not-nil m);
    passed-carried = λ k m. absurd (not-nil m);
    passed-opened = λ k m. absurd (not-nil m);
    passed-hand = λ k m. absurd (not-nil m);
    opened-first = λ e. clash (eq_z-refl far) e;
    hand_first = λ e. clash (eq_z-refl far) e;
    carried_first = λ e. clash (eq_z-refl far) e;
  }
    where
      from : (q : Point) → In q (p ∷ rest) → le_z p.y q.y ≡ true
      from q m = after-row (rising-least p w.rest-rising m)

      reach : (k : Live) → In k A → le_z p.y (end_of ps k) ≡ true
      reach k m =
          let t = end-to-come w k m in
          let h = from t.0 t.1 in
          let e = t.2 in
          omega order

  -- ---- The next row, and the end

  -- with nothing to come on the row nothing is open, and the next point's row follows: those left of the point are passed
  pub turns : {rest : List Point} {row o : ℤ} {g : ℕ} {A B : List Live} {p : Point} → Sweeping ps (stand (p ∷ rest) row far o far g A B) → eq_z p.y row ≡ false → (C D : List Live) → C ++ D ≡ A ++ B → ((k : Live) → In k C → le_z k.right p.x ≡ true) → (o ≡ far) × Sweeping ps (stand (p ∷ rest) p.y far far far g C D)
  turns {rest} {row} {g = g} {p = p} w e C D d left =
      let low = w.rest_from p (head refl) in
      let done = row_done w (λ q m. omega (order, after-row (rising-least p w.rest-rising m))) in
      (done.0, keeps-all C D (subst (λ (K : List Live). Sweeping ps (stand (p ∷ rest) p.y far far far g [] K)) (sym d) (next_row done.1 (omega order))) (λ k m. rw (eq_z-refl p.y) (left k m)))

  -- where no point is to come, none that is passed is live
  none_passed : {row : ℤ} {g : ℕ} (A : List Live) → Sweeping ps (stand [] row far far far g A []) → A ≡ []
  none_passed [] w = refl
  none_passed (k ∷ A) w = absurd (not-nil (end-to-come w k (head refl)).1)

  -- and where none is live either, no point is left
  none-left-over : {row : ℤ} {g : ℕ} → Sweeping ps (stand [] row far far far g [] []) → after_steps ps g ≡ []
  none-left-over {row} {g} w = even-none (after_steps ps g) (after-accepted ps acc g).once (λ f. w.shown f ∙ shows-rest f ps [] row g ∙ odd-none-of f)

  -- with no point to come none is live, and the list is whole
  pub ends : {row o : ℤ} {g : ℕ} {A B : List Live} → Sweeping ps (stand [] row far o far g A B) → (o ≡ far) × (A ++ B ≡ []) × (g ≡ length (rule_list ps))
  ends {row} {g = g} {A} {B} w =
      let done = row_done w (λ q m. absurd (not-nil m)) in
      let none : A ++ B ≡ [] = none_passed (A ++ B) done.1 in
      (done.0, none, all_made ps acc g w.given-few (none-left-over (subst (λ (K : List Live). Sweeping ps (stand [] row far far far g K [])) none done.1)))
