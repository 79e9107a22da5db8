-- The next rectangle: a point in hand and one that is open are L and K of what the rule has left, and the next step begins the rectangle
-- between them.
use Prim.Native.Nat.{ℕ, ◌+◌, ◌<◌}
use native.Mathlib.Omega.{arith}
use mathlib.Core.Path.{◌≡◌, refl, sym, ap, ap₂, ◌∙◌}
use mathlib.Core.Bool.{Bool, true, false, xor}
use mathlib.Core.List.{List, Memᴰ as In}
use lib.ListN.{length}
use lib.IntN.{ℤ}
use lib.Signed.{lt_z}
use Rattle.plane.specs.declared.Point.{Point}
use Rattle.plane.specs.Lists.{odd, any}
use Rattle.plane.specs.Words.{eq_z, same, on_row, before, right, top}
use Rattle.plane.proofs.Order.{order, eq_z-refl}
use Rattle.plane.proofs.Bools.{and_parts, and-make, xor-false, false-xor, xor-back}
use Rattle.plane.proofs.Sums.{any-in, sum-in, sum-length}
use Rattle.plane.proofs.Parity.{odd-none, once-odd}
use Rattle.plane.proofs.Points.{same-is, same_in, same_refl, After, after-refl, after-trans, after-no, after-yes, before_above, before-along, before-all, before-apart, before-trans}
use Rattle.rule.specs.Rule.{left_of, right_of, toggle_four, rule_list, IsFirst}
use Rattle.rule.specs.Rows.{Accepted}
use Rattle.rule.proofs.Toggle.{odd-four}
use Rattle.rule.proofs.Picks.{is-first, first-unique, higher}
use Rattle.live.specs.declared.Live.{Live}
use Rattle.live.specs.Stands.{after_steps, rect_no, tops, far, stand, waiting, Sweeping}
use Rattle.live.proofs.Numbered.{StepNo, after-accepted, step-no, sides-no, goes_on}
use Rattle.live.proofs.Columns.{is-left, off-row}
use Rattle.live.proofs.Shown.{point-far, odd-waiting, waiting-all, shows-parts, live-wide, tops-all}

-- ---- A step that begins a rectangle

-- the step with number g begins on a row a rectangle from o to h; what it leaves, for every test
pub record Begins (ps : List Point) (g : ℕ) (row o h : ℤ) : Type 0 where
  pub in_list : g < length (rule_list ps)
  pub left_at : (rect_no ps g).x ≡ o
  pub right-at : right (rect_no ps g) ≡ h
  pub row_at : (rect_no ps g).y ≡ row
  pub ends_above : lt_z row (top (rect_no ps g)) ≡ true
  pub odd-next : (f : Point → Bool) → odd f (after_steps ps (g + 1)) ≡ xor (f (record { x = h; y = top (rect_no ps g) })) (xor (f (record { x = o; y = top (rect_no ps g) })) (xor (f (record { x = h; y = row })) (xor (f (record { x = o; y = row })) (odd f (after_steps ps g)))))

-- so does a step with such K and L
begins-at : {ps : List Point} {g : ℕ} {row o h : ℤ} → g < length (rule_list ps) → (n : StepNo ps g) → n.k ≡ record { x = o; y = row } → n.l ≡ record { x = h; y = row } → Begins ps g row o h
begins-at {ps} {g} {row} {o} {h} lt n is-k is-l =
    let k : Point = record { x = o; y = row } in
    let l : Point = record { x = h; y = row } in
    let s = sides-no n in
    let at-row : n.k.y ≡ row = ap (λ (q : Point). q.y) is-k in
    let next : after_steps ps (g + 1) ≡ toggle_four (after_steps ps g) k l n.m = n.next-is ∙ ap₂ (λ (p q : Point). toggle_four (after_steps ps g) p q n.m) is-k is-l in
    record {
      in_list = lt;
      left_at = s.0 ∙ ap (λ (q : Point). q.x) is-k;
      right-at = s.2 ∙ ap (λ (q : Point). q.x) is-l;
      row_at = s.1 ∙ at-row;
      ends_above = let up-to-m = higher n.picked in omega order;
      odd-next = λ f. ap (odd f) next ∙ odd-four f (after_steps ps g) k l n.m ∙ rw s.3;
    }

-- right of it the step changes no parity of the row
pub steps-past : {ps : List Point} {g : ℕ} {row o h : ℤ} → Begins ps g row o h → lt_z o h ≡ true → (z : ℤ) → lt_z h z ≡ true → odd (left_of z row) (after_steps ps (g + 1)) ≡ odd (left_of z row) (after_steps ps g)
steps-past {ps} {g} {row} {o} {h} b wide z past = b.odd-next (left_of z row) ∙ rw (higher-up h, higher-up o, left-on_row h past, left-on_row o (omega order)) (simp (false-xor, xor-back))
  where
    higher-up : (x : ℤ) → left_of z row (record { x = x; y = top (rect_no ps g) }) ≡ false
    higher-up x = off-row z row _ (let l = b.ends_above in omega order)

    left-on_row : (x : ℤ) → lt_z x z ≡ true → left_of z row (record { x = x; y = row }) ≡ true
    left-on_row x l = is-left z row _ refl l

-- ---- What the rule has left, with a point in hand

module _ {ps rest : List Point} {row c o h : ℤ} {g : ℕ} {A B : List Live} (acc : Accepted ps) (w : Sweeping ps (stand rest row c o h g A B)) (e : eq_z h far ≡ false) where
  -- that point
  abbrev in-hand : Point
  in-hand = record { x = h; y = row }

  -- the points to come are after it
  after-rest : (q : Point) → In q rest → before in-hand q ≡ true
  after-rest q m = before-all h row q (w.rest_from q m) ((w.hand_first e).0.before-rest q m)

  -- so are the upper corners of those passed
  after-passed : (q : Point) → In q (tops ps A) → before in-hand q ≡ true
  after-passed = tops-all (λ q. before in-hand q ≡ true) ps A (λ k m. (before_above in-hand _ (w.passed_over k m), before_above in-hand _ (w.passed_over k m)))

  -- and of those ahead
  after-ahead : (q : Point) → In q (tops ps B) → before in-hand q ≡ true
  after-ahead = tops-all (λ q. before in-hand q ≡ true) ps B (λ k m.
      let l = (w.hand_first e).0.before-ahead k m in
      let r = live-wide acc w.given-few (w.ahead-live k m) in
      (before-all h row _ (w.ahead-over k m) (λ d. l), before-all h row _ (w.ahead-over k m) (λ d. omega order)))

  -- and the right end that is carried
  after-carried : (q : Point) → In q (waiting c row) → before in-hand q ≡ true
  after-carried = waiting-all (λ q. before in-hand q ≡ true) c row (λ d. before-along h c row (w.hand_first e).1)

  -- so a test that nothing after it passes has the parity of it and what is open
  odd-early : (f : Point → Bool) → ((q : Point) → before in-hand q ≡ true → f q ≡ false) → odd f (after_steps ps g) ≡ xor (odd f (waiting o row)) (f in-hand)
  odd-early f n =
      w.shown f
      ∙ shows-parts f ps rest row c o h g A B
      ∙ rw (odd-none f rest (λ q m. n q (after-rest q m)), odd-none f (tops ps A) (λ q m. n q (after-passed q m)), odd-none f (tops ps B) (λ q m. n q (after-ahead q m)), odd-none f (waiting c row) (λ q m. n q (after-carried q m)), odd-waiting f h row e) (simp false-xor)

  -- a point stands there just if it does so an odd number of times
  odd-left : (q : Point) → odd (same q) (after_steps ps g) ≡ any (same q) (after_steps ps g)
  odd-left q = once-odd (same q) (after_steps ps g) ((after-accepted ps acc g).once q)

  -- the point in hand is left
  hand-left : In in-hand (after_steps ps g)
  hand-left =
      let none_open : odd (same in-hand) (waiting o row) ≡ false = odd-none (same in-hand) (waiting o row) (waiting-all (λ q. same in-hand q ≡ false) o row (λ d. (before-apart _ in-hand (before-along o h row (w.opened-first d).2)).1)) in
      same_in in-hand (after_steps ps g) (sym (odd-left in-hand) ∙ odd-early (same in-hand) (λ q b. (before-apart in-hand q b).0) ∙ rw (none_open, same_refl in-hand) (false-xor true))

  -- so it is left of far
  pub hand-near : lt_z h far ≡ true
  hand-near = point-far in-hand ((after-accepted ps acc g).range in-hand hand-left)

  -- and with one that is open
  module _ (d : eq_z o far ≡ false) where
    -- that point
    abbrev opening : Point
    opening = record { x = o; y = row }

    -- it comes before the one in hand
    opening-before : before opening in-hand ≡ true
    opening-before = before-along o h row (w.opened-first d).2

    -- a test that nothing after both passes has the parity of the two
    odd-both : (f : Point → Bool) → ((q : Point) → before in-hand q ≡ true → f q ≡ false) → odd f (after_steps ps g) ≡ xor (f opening) (f in-hand)
    odd-both f n = odd-early f n ∙ rw (odd-waiting f o row d)

    -- it is left
    opening-left : In opening (after_steps ps g)
    opening-left = same_in opening (after_steps ps g) (sym (odd-left opening) ∙ odd-both (same opening) (λ q b. (before-apart opening q (before-trans opening in-hand q opening-before b)).0) ∙ rw (same_refl opening, (before-apart opening in-hand opening-before).0) (xor-false true))

    -- and nothing else before the one in hand
    early-opening : (q : Point) → In q (after_steps ps g) → before q in-hand ≡ true → q ≡ opening
    early-opening q m b = same-is q opening (sym (odd-both (same q) (λ r f. (before-apart q r (before-trans q in-hand r b f)).0) ∙ rw (before-apart q in-hand b).0 (xor-false (same q opening))) ∙ odd-left q ∙ any-in (same q) m (same_refl q))

    -- so it is K
    first_opening : IsFirst (λ p. true) (after_steps ps g) opening
    first_opening = is-first opening-left refl (λ q m t. go q m (before q in-hand) refl)
      where
        go : (q : Point) → In q (after_steps ps g) → (b : Bool) → before q in-hand ≡ b → After q opening
        go q m true f = rw (early-opening q m f) (after-refl opening)
        go q m false f = after-trans (after-no q in-hand f) (after-yes opening in-hand opening-before)

    -- and the one in hand is L
    first-hand : IsFirst (right_of opening) (after_steps ps g) in-hand
    unfolding right_of on_row
    first-hand = is-first hand-left (and-make (eq_z row row) (lt_z o h) (eq_z-refl row) (w.opened-first d).2) (λ q m t. go q m t (before q in-hand) refl)
      where
        go : (q : Point) → In q (after_steps ps g) → right_of opening q ≡ true → (b : Bool) → before q in-hand ≡ b → After q in-hand
        go q m t true f =
            let x : q.x ≡ o = ap (λ (p : Point). p.x) (early-opening q m f) in
            let r = (and_parts (on_row row q) (lt_z o q.x) t).1 in
            absurd (omega order)
        go q m t false f = after-no q in-hand f

    -- and the next step begins the rectangle between them
    pub begins : Begins ps g row o h
    begins = from_step (step-no ps acc g lt)
      where
        lt : g < length (rule_list ps)
        lt = goes_on ps acc g (omega (arith, sum-in (λ p. 1) hand-left, sum-length (after_steps ps g)))

        from_step : StepNo ps g → Begins ps g row o h
        from_step n =
            let p = n.picked in
            let is-k : n.k ≡ opening = first-unique p.first-k first_opening p.first-k.within refl opening-left refl in
            begins-at lt n is-k (first-unique p.first-l first-hand p.first-l.within (rw is-k at p.first-l.passes) hand-left (rw is-k first-hand.passes))
