-- What a sweep shows: laws of the points that wait on the row, of live rectangles and their upper corners, and of the next point.
use Prim.Native.Nat.{ℕ, ◌<◌, ◌≤◌}
use native.Mathlib.Omega.{arith}
use mathlib.Core.Path.{◌≡◌, refl, sym, ap, ◌∙◌, subst}
use mathlib.Core.Logic.{⊎_elim}
use mathlib.Core.Bool.{Bool, true, false, cond, xor}
use mathlib.Core.List.Memᴰ.{append_cases}
use mathlib.Core.List.Memᴰ.{append_left}
use mathlib.Core.List.Memᴰ.{append_right}
use mathlib.Core.List.Memᴰ.{eq_of_singleton}
use mathlib.Core.List.Memᴰ.{head}
use mathlib.Core.List.Memᴰ.{not-nil}
use mathlib.Core.List.Memᴰ.{tail}
use mathlib.Core.List.{List, [], ◌∷◌, ◌++◌, Memᴰ as In}
use lib.ListN.{length}
use lib.IntN.{ℤ, pos, ◌+ℤ◌}
use lib.Signed.{le_z, lt_z}
use Rattle.plane.specs.declared.Point.{Point}
use Rattle.plane.specs.declared.Rect.{Rect}
use Rattle.plane.specs.Lists.{odd}
use Rattle.plane.specs.Words.{eq_z, on_row, in_range, point_in_range, rising, rect_in_range, flat, right, top}
use Rattle.plane.proofs.Order.{order, add-more, next_up, range-up, pos-up, eq_z-is, eq_z-refl}
use Rattle.plane.proofs.Bools.{clash, and_parts, and-four, or_parts, cond-case, cond-true, cond-false, xor-false, false-xor, xor-back}
use Rattle.plane.proofs.Sums.{all-last-added}
use Rattle.plane.proofs.Parity.{odd-none-of, odd-cons, odd-append}
use Rattle.plane.proofs.Points.{After, above, along}
use Rattle.plane.proofs.Rising.{rising-least, rising-along}
use Rattle.rule.specs.Rule.{left_of, rule_list}
use Rattle.rule.specs.Rows.{Accepted}
use Rattle.live.specs.declared.Live.{Live}
use Rattle.live.specs.Stands.{rect_no, number, end_of, IsLive, tops, Apart, then-right, far, stand, waiting, shows, next_on}
use Rattle.live.proofs.Numbered.{rect-no-solid}
use Rattle.live.proofs.Columns.{is-left, none_left}

-- ---- Far

-- a number in range is left of it
range-far : (z : ℤ) → in_range z ≡ true → lt_z z far ≡ true
range-far z e = let h = range-up z e in omega (order, pos-up 2_000_000_000)

-- so is x of a point in range
pub point-far : (p : Point) → point_in_range p ≡ true → lt_z p.x far ≡ true
unfolding point_in_range
point-far p e = range-far p.x (and_parts (in_range p.x) (in_range p.y) e).0

-- ---- The points that wait

-- at far there is none
pub odd-far : (f : Point → Bool) (y : ℤ) → odd f (waiting far y) ≡ false
odd-far f y = ap (odd f) (cond-true (eq_z far far) _ _ (eq_z-refl far)) ∙ odd-none-of f

-- at any other place there is one
pub odd-waiting : (f : Point → Bool) (x y : ℤ) → eq_z x far ≡ false → odd f (waiting x y) ≡ f (record { x = x; y = y })
odd-waiting f x y e = ap (odd f) (cond-false (eq_z x far) _ _ e) ∙ rw (odd-cons, odd-none-of f) (xor-false _)

-- where a point in range of the row is, that point waits
pub odd-taken : (f : Point → Bool) (p : Point) (row : ℤ) → point_in_range p ≡ true → p.y ≡ row → odd f (waiting p.x row) ≡ f p
odd-taken f p row r e =
    let h = point-far p r in
    odd-waiting f p.x row (omega order) ∙ ap (λ y. f (record { x = p.x; y = y })) (sym e)

-- at three places
pub odd-waiting-points : (f : Point → Bool) (c o h y : ℤ) → odd f (waiting c y ++ (waiting o y ++ waiting h y)) ≡ xor (odd f (waiting c y)) (xor (odd f (waiting o y)) (odd f (waiting h y)))
odd-waiting-points f c o h y = odd-append f (waiting c y) _ ∙ ap (xor _) (odd-append f (waiting o y) (waiting h y))

-- what holds of the point, if there is one, holds of all that wait there
pub waiting-all : (P : Point → Type 0) (x y : ℤ) → (eq_z x far ≡ false → P (record { x = x; y = y })) → (q : Point) → In q (waiting x y) → P q
waiting-all P x y h q = cond-case (λ (l : List Point). In q l → P q) (eq_z x far) (λ e m. absurd (not-nil m)) (λ e m. subst P (sym (eq_of_singleton m)) (h e))

-- one at or right of a column is not left of it
pub waiting-none-left : (b x y : ℤ) → le_z b x ≡ true → odd (left_of b y) (waiting x y) ≡ false
waiting-none-left b x y h = none_left b y (waiting x y) (waiting-all (λ q. q.y ≡ y → le_z b q.x ≡ true) x y (λ e d. h))

-- ---- Live rectangles

module _ {ps : List Point} (acc : Accepted ps) {g : ℕ} (few : g ≤ length (rule_list ps)) {k : Live} (l : IsLive ps g k) where
  -- the number is of the list
  pub live-listed : number k < length (rule_list ps)
  live-listed = omega (arith, l.is-given)

  -- the left side is left of the right side
  pub live-wide : lt_z k.left k.right ≡ true
  unfolding flat
  live-wide =
      let r : Rect = rect_no ps (number k) in
      let s = rect-no-solid ps acc (number k) live-listed in
      let a = l.left_is in
      let b = l.right_is in
      let h = add-more r.x r.w (or_parts (lt_z r.w (pos 1)) (lt_z r.h (pos 1)) s.0).0 in
      omega order

  -- the right side is left of far
  pub live-far : lt_z k.right far ≡ true
  unfolding rect_in_range
  live-far =
      let r : Rect = rect_no ps (number k) in
      let s = rect-no-solid ps acc (number k) live-listed in
      let b = l.right_is in
      let h = range-far (right r) (and-four (in_range r.x) (in_range r.y) (in_range (right r)) (in_range (top r)) s.1).2 in
      omega order

-- ---- Upper corners

-- what holds of both upper corners of each holds of all upper corners
pub tops-all : (P : Point → Type 0) (ps : List Point) (ks : List Live) → ((k : Live) → In k ks → P (record { x = k.left; y = end_of ps k }) × P (record { x = k.right; y = end_of ps k })) → (q : Point) → In q (tops ps ks) → P q
unfolding tops
tops-all P ps [] h q m = absurd (not-nil m)
tops-all P ps (k ∷ ks) h q (head e) = rw e (h k (head refl)).0
tops-all P ps (k ∷ ks) h q (tail (head e)) = rw e (h k (head refl)).1
tops-all P ps (k ∷ ks) h q (tail (tail m)) = tops-all P ps ks (λ j n. h j (tail n)) q m

-- those of one, and of the others
pub odd-tops : (f : Point → Bool) (ps : List Point) (k : Live) (ks : List Live) → odd f (tops ps (k ∷ ks)) ≡ xor (f (record { x = k.left; y = end_of ps k })) (xor (f (record { x = k.right; y = end_of ps k })) (odd f (tops ps ks)))
unfolding tops
odd-tops f ps k ks = odd-cons f _ _ ∙ ap (xor _) (odd-cons f _ _)

-- with one more at the end
tops-last : (ps : List Point) (ks : List Live) (k : Live) → tops ps (ks ++ (k ∷ [])) ≡ tops ps ks ++ (record { x = k.left; y = end_of ps k } ∷ record { x = k.right; y = end_of ps k } ∷ [])
unfolding tops
tops-last ps [] k = refl
tops-last ps (j ∷ ks) k = rw (tops-last ps ks k)

-- its two upper corners are added
pub odd-tops-last : (f : Point → Bool) (ps : List Point) (ks : List Live) (k : Live) → odd f (tops ps (ks ++ (k ∷ []))) ≡ xor (odd f (tops ps ks)) (xor (f (record { x = k.left; y = end_of ps k })) (f (record { x = k.right; y = end_of ps k })))
odd-tops-last f ps ks k = ap (odd f) (tops-last ps ks k) ∙ odd-append f (tops ps ks) _ ∙ ap (xor _) (rw (odd-cons, odd-cons, odd-none-of f, xor-false))

-- those of a row are in pairs
pub tops-even : (ps : List Point) (y : ℤ) (ks : List Live) → odd (on_row y) (tops ps ks) ≡ false
unfolding tops on_row
tops-even ps y [] = odd-none-of (on_row y)
tops-even ps y (k ∷ ks) = odd-tops (on_row y) ps k ks ∙ xor-back _ _ ∙ tops-even ps y ks

-- where those on a row are at or right of a column, none is left of it
pub tops-none-left : (ps : List Point) (b y : ℤ) (ks : List Live) → ((k : Live) → In k ks → end_of ps k ≡ y → (le_z b k.left ≡ true) × (le_z b k.right ≡ true)) → odd (left_of b y) (tops ps ks) ≡ false
tops-none-left ps b y ks h = none_left b y (tops ps ks) (tops-all (λ q. q.y ≡ y → le_z b q.x ≡ true) ps ks (λ k m. (λ e. (h k m e).0, λ e. (h k m e).1)))

-- ---- From left to right

module _ (k : Live) (later : List Live) where
  -- those before one are left of it
  pub apart-left : (sooner : List Live) → Apart (sooner ++ (k ∷ later)) → (j : Live) → In j sooner → le_z j.right k.left ≡ true
  apart-left [] _ j m = elim m [ ]
  apart-left (i ∷ sooner) (then-right h a) j (head e) = rw e (h k (append_right sooner (head refl)))
  apart-left (i ∷ sooner) (then-right h a) j (tail m) = apart-left sooner a j m

  -- those after it are right of it
  pub apart-right : (sooner : List Live) → Apart (sooner ++ (k ∷ later)) → (j : Live) → In j later → le_z k.right j.left ≡ true
  apart-right [] (then-right h a) j m = h j m
  apart-right (i ∷ sooner) (then-right h a) j m = apart-right sooner a j m

  -- without it, the others are still apart
  pub apart-without : (sooner : List Live) → Apart (sooner ++ (k ∷ later)) → Apart (sooner ++ later)
  apart-without [] (then-right h a) = a
  apart-without (i ∷ sooner) (then-right h a) = then-right (λ j m. h j (⊎_elim (λ (n : In j sooner). append_left (k ∷ later) n) (λ n. append_right sooner (tail n)) (append_cases sooner m))) (apart-without sooner a)

-- one between those left of it and those right of it
pub apart-between : (ks js : List Live) (n : Live) → Apart (ks ++ js) → ((k : Live) → In k ks → le_z k.right n.left ≡ true) → ((j : Live) → In j js → le_z n.right j.left ≡ true) → Apart ((ks ++ (n ∷ [])) ++ js)
apart-between [] js n a from to = then-right to a
apart-between (k ∷ ks) js n (then-right h a) from to = then-right right_of (apart-between ks js n a (λ j m. from j (tail m)) to)
  where
    right_of : (j : Live) → In j ((ks ++ (n ∷ [])) ++ js) → le_z k.right j.left ≡ true
    right_of j m =
        ⊎_elim (λ (i : In j (ks ++ (n ∷ []))). all-last-added (λ l. le_z k.right l.left ≡ true) ks n (λ l m. h l (append_left js m)) (from k (head refl)) j i) (λ i. h j (append_right ks i))
        (append_cases (ks ++ (n ∷ [])) m)

-- ---- The next point of the row

-- it is not right of far
pub next-near : (row : ℤ) (rest : List Point) → ((q : Point) → In q rest → point_in_range q ≡ true) → le_z (next_on row rest) far ≡ true
next-near row [] h = omega order
next-near row (p ∷ rest) h = cond-case (λ (z : ℤ). le_z z far ≡ true) (eq_z p.y row) (λ e. let l = point-far p (h p (head refl)) in omega order) (λ e. omega order)

-- where all are above the row, there is none
pub next-far : (row : ℤ) (rest : List Point) → ((q : Point) → In q rest → lt_z row q.y ≡ true) → next_on row rest ≡ far
next-far row [] over = refl
next-far row (p ∷ rest) over =
    let h = over p (head refl) in
    cond-false (eq_z p.y row) p.x far (omega order)

-- of the points to come none on the row is left of it
pub next-first : (row : ℤ) (rest : List Point) → rising rest ≡ true → ((q : Point) → In q rest → le_z row q.y ≡ true) → (q : Point) → In q rest → q.y ≡ row → le_z (next_on row rest) q.x ≡ true
next-first row [] rises from q m e = elim m [ ]
next-first row (p ∷ rest) rises from q m e = go (rising-least p rises m) (from p (head refl))
  where
    go : After q p → le_z row p.y ≡ true → le_z (next_on row (p ∷ rest)) q.x ≡ true
    go (above h) g = absurd (omega order)
    go (along d h) g =
        let on : eq_z p.y row ≡ true = omega order in
        rw on h

-- and just it is left of the column after it
pub next-odd : (row : ℤ) (rest : List Point) → rising rest ≡ true → eq_z (next_on row rest) far ≡ false → odd (left_of (next_on row rest +ℤ pos 1) row) rest ≡ true
next-odd row [] rises d = clash (eq_z-refl far) d
next-odd row (p ∷ rest) rises d = go (eq_z p.y row) refl d
  where
    b : ℤ
    b = p.x +ℤ pos 1

    later : eq_z p.y row ≡ true → (q : Point) → In q rest → q.y ≡ row → le_z b q.x ≡ true
    later e q m g = omega (order, next_up p.x, rising-along p rises m (omega order))

    go : (t : Bool) → eq_z p.y row ≡ t → eq_z (cond t p.x far) far ≡ false → odd (left_of (cond t p.x far +ℤ pos 1) row) (p ∷ rest) ≡ true
    go true e d = odd-cons (left_of b row) p rest ∙ rw (is-left b row p (eq_z-is p.y row e) (omega (order, next_up p.x)), none_left b row rest (later e)) (xor-false true)
    go false e d = clash (eq_z-refl far) d

-- ---- All that a sweep shows

-- the points to come, the upper corners of those passed and of those ahead, and the three that wait
pub shows-parts : (f : Point → Bool) (ps rest : List Point) (row c o h : ℤ) (g : ℕ) (A B : List Live) → shows ps (stand rest row c o h g A B) f ≡ xor (odd f rest) (xor (odd f (tops ps A)) (xor (odd f (tops ps B)) (xor (odd f (waiting c row)) (xor (odd f (waiting o row)) (odd f (waiting h row))))))
shows-parts f ps rest row c o h g A B = ap (λ t. xor (odd f rest) (xor (odd f (tops ps A)) (xor (odd f (tops ps B)) t))) (odd-waiting-points f c o h row)

-- where nothing waits and nothing is live, just the points to come
pub shows-rest : (f : Point → Bool) (ps rest : List Point) (row : ℤ) (g : ℕ) → shows ps (stand rest row far far far g [] []) f ≡ odd f rest
unfolding tops
shows-rest f ps rest row g = shows-parts f ps rest row far far far g [] [] ∙ rw (odd-far f row, odd-none-of f) (simp (false-xor, xor-false))
