-- The backward rule: its answer is the one rising list of the odd corners, it marks the cells that lie in an odd number of the rectangles, and forward accepts it.
use mathlib.Core.Path.{◌≡◌, refl, sym, ◌∙◌, subst}
use Prim.Native.Nat.{◌*◌, ◌≤◌}
use native.Mathlib.Omega.{arith}
use mathlib.Core.Bool.{Bool, true, false, ◌&&◌, xor}
use mathlib.Core.List.Memᴰ
use mathlib.Core.List.Memᴰ.{head}
use mathlib.Core.List.Memᴰ.{tail}
use mathlib.Core.List.{List, [], ◌∷◌, Memᴰ as In}
use lib.ListN.{length}
use lib.IntN.{ℤ}
use lib.Signed.{lt_z}
use Rattle.plane.specs.declared.Point.{Point}
use Rattle.plane.specs.declared.Rect.{Rect}
use Rattle.plane.specs.Lists.{any, odd, only}
use Rattle.plane.specs.Words.{eq_z, in_range, lower_left, point_in_range, same, on_row, in_column, rising_after, rising, right, top, rect_in_range, flat, corners_of, holds, under, marks}
use Rattle.plane.proofs.Order.{order, add-more}
use Rattle.plane.proofs.Bools.{iff, and_parts, and-make, or_parts, xor-back, xor_self, xor-false, xor_assoc}
use Rattle.plane.proofs.Sums.{any-find, any-in, any-only, length-only}
use Rattle.plane.proofs.Parity.{odd-cons, odd-none-of, odd-cong, odd-none, odd-find, odd-append, once-odd}
use Rattle.plane.proofs.Points.{same-is, same_refl, same_in, before_above, before-along}
use Rattle.plane.proofs.Alike.{Alike, points-alike, alike-marks}
use Rattle.plane.proofs.Rising.{rising-once, rising-unique, in_order-rising, in_order-has, in_order-few}
use Rattle.plane.proofs.Cells.{corners-under}
use Rattle.rule.specs.Back.{is_corner, corners, odd_corner, back_list}
use Rattle.rule.specs.Rows.{Accepted, AcceptedRects}

-- ---- The answer is the one rising list of the odd corners

-- the answer is in order, each point once
pub back-rising : (rs : List Rect) → rising (back_list rs) ≡ true
unfolding back_list
back-rising rs = in_order-rising (only (odd_corner rs) (corners rs))

-- a corner of one of the rectangles is one of the corners
corner-in : {r : Rect} {p : Point} {rs : List Rect} → In r rs → In p (corners_of r) → In p (corners rs)
unfolding corners
corner-in {rs = []} n m = elim n [ ]
corner-in {p = p} {rs = s ∷ rs} (head e) m = Memᴰ.append_left (corners rs) (subst (λ t. In p (corners_of t)) e m)
corner-in {rs = s ∷ rs} (tail n) m = Memᴰ.append_right (corners_of s) (corner-in n m)

-- an odd corner is a corner of one of the rectangles
odd-corner : (rs : List Rect) (p : Point) → odd_corner rs p ≡ true → (r : Rect) × In r rs × In p (corners_of r)
unfolding odd_corner is_corner
odd-corner rs p e = let r = odd-find (is_corner p) rs e in (r.0, r.1, same_in p (corners_of r.0) r.2)

-- the answer has exactly the points that are a corner of an odd number of rectangles
pub back-points : (rs : List Rect) (p : Point) → any (same p) (back_list rs) ≡ odd_corner rs p
unfolding back_list
back-points rs p = in_order-has (same p) (only (odd_corner rs) (corners rs)) ∙ any-only (same p) (odd_corner rs) (corners rs) ∙ iff (any both (corners rs)) (odd_corner rs p) is_odd is-there
  where
    both : Point → Bool
    both q = odd_corner rs q && same p q

    is_odd : any both (corners rs) ≡ true → odd_corner rs p ≡ true
    is_odd e =
        let r = any-find both (corners rs) e in
        let h = and_parts (odd_corner rs r.0) (same p r.0) r.2 in
        rw (same-is p r.0 h.1) h.0

    is-there : odd_corner rs p ≡ true → any both (corners rs) ≡ true
    is-there e =
        let r = odd-corner rs p e in
        any-in both (corner-in r.1 r.2) (and-make (odd_corner rs p) (same p p) e (same_refl p))

-- and is the only list that is so
pub back-only : (rs : List Rect) (ps : List Point) → rising ps ≡ true → ((p : Point) → any (same p) ps ≡ odd_corner rs p) → ps ≡ back_list rs
back-only rs ps e h = rising-unique ps (back_list rs) e (back-rising rs) (λ p. h p ∙ sym (back-points rs p))

-- ---- How many points the answer has

-- each rectangle has four corners
length-corners : (rs : List Rect) → length (corners rs) ≡ 4 * length rs
unfolding corners corners_of
length-corners [] = refl
length-corners (r ∷ rs) = let h = length-corners rs in omega arith

-- and the answer has at most as many points
pub back-length : (rs : List Rect) → length (back_list rs) ≤ 4 * length rs
unfolding back_list
back-length rs = omega (arith, in_order-few (only (odd_corner rs) (corners rs)), length-only (odd_corner rs) (corners rs), length-corners rs)

-- ---- The answer has the parity of the corners

-- a rectangle that is not flat has its far sides beyond the near ones
pub solid-sides : (r : Rect) → flat r ≡ false → (lt_z r.x (right r) ≡ true) × (lt_z r.y (top r) ≡ true)
unfolding flat
solid-sides r e = let h = or_parts (lt_z r.w _) (lt_z r.h _) e in (add-more r.x r.w h.0, add-more r.y r.h h.1)

-- and its corners in rising order
corners-rising : (r : Rect) → flat r ≡ false → rising (corners_of r) ≡ true
unfolding rising rising_after corners_of
corners-rising r e =
    let h = solid-sides r e in
    rw (before-along r.x (right r) r.y h.0, before_above (record { x = right r; y = r.y }) (record { x = r.x; y = top r }) h.1, before-along r.x (right r) (top r) h.0)

-- the four corners of a rectangle that is not flat differ, so that each of them counts once
pub corner-parity : (p : Point) (r : Rect) → flat r ≡ false → odd (same p) (corners_of r) ≡ is_corner p r
unfolding is_corner
corner-parity p r e = once-odd (same p) (corners_of r) (rising-once (corners_of r) (corners-rising r e) p)

-- the parity of a test over all corners, rectangle by rectangle
pub odd-corners : (f : Point → Bool) (rs : List Rect) → odd f (corners rs) ≡ odd (λ r. odd f (corners_of r)) rs
unfolding corners
odd-corners f [] = odd-none-of f ∙ sym (odd-none-of _)
odd-corners f (r ∷ rs) = odd-append f (corners_of r) (corners rs) ∙ rw (odd-corners f rs) (sym (odd-cons _ r rs))

-- where no rectangle is flat, a point is an odd corner just if it stands an odd number of times among the corners
pub corners-parity : (rs : List Rect) → ((r : Rect) → In r rs → flat r ≡ false) → (p : Point) → odd (same p) (corners rs) ≡ odd_corner rs p
unfolding odd_corner
corners-parity rs solid p = odd-corners (same p) rs ∙ odd-cong _ (is_corner p) rs (λ r m. corner-parity p r (solid r m))

-- the answer has the parity of the corners, for every test
pub back-alike : (rs : List Rect) → AcceptedRects rs → Alike (back_list rs) (corners rs)
back-alike rs acc = points-alike (back_list rs) (corners rs) (λ p. once-odd (same p) (back_list rs) (rising-once (back_list rs) (back-rising rs) p) ∙ back-points rs p ∙ sym (corners-parity rs acc.solid p))

-- ---- The cells that the answer marks

-- the parity of a test over the corners of one rectangle
pub odd-corners_of : (f : Point → Bool) (r : Rect) → odd f (corners_of r) ≡ xor (f (lower_left r)) (xor (f (record { x = right r; y = r.y })) (xor (f (record { x = r.x; y = top r })) (f (record { x = right r; y = top r }))))
unfolding corners_of
odd-corners_of f r = rw (odd-cons, odd-cons, odd-cons, odd-cons, odd-none-of, xor-false)

-- the corners of rectangles that are not flat mark the cells that an odd number of the rectangles hold
pub corners-mark : (rs : List Rect) → ((r : Rect) → In r rs → flat r ≡ false) → (a b : ℤ) → marks (corners rs) a b ≡ odd (holds a b) rs
unfolding marks holds
corners-mark rs solid a b = odd-corners (under a b) rs ∙ odd-cong _ (holds a b) rs (λ r m. one r (solid-sides r (solid r m)))
  where
    one : (r : Rect) → (lt_z r.x (right r) ≡ true) × (lt_z r.y (top r) ≡ true) → odd (under a b) (corners_of r) ≡ holds a b r
    one r h = odd-corners_of (under a b) r ∙ corners-under a b r.x r.y (right r) (top r) (omega (order, h)) (omega (order, h))

-- the answer marks exactly the cells that lie in an odd number of the rectangles
pub back-marks : (rs : List Rect) → AcceptedRects rs → (a b : ℤ) → marks (back_list rs) a b ≡ odd (holds a b) rs
back-marks rs acc a b = alike-marks (back-alike rs acc) a b ∙ corners-mark rs acc.solid a b

-- ---- Forward accepts the answer

-- a test that the four corners pass
each-corner : (f : Point → Bool) (r : Rect) → f (lower_left r) ≡ true → f (record { x = right r; y = r.y }) ≡ true → f (record { x = r.x; y = top r }) ≡ true → f (record { x = right r; y = top r }) ≡ true → (p : Point) → In p (corners_of r) → f p ≡ true
unfolding corners_of
each-corner f r a b c d p (head e) = rw e a
each-corner f r a b c d p (tail (head e)) = rw e b
each-corner f r a b c d p (tail (tail (head e))) = rw e c
each-corner f r a b c d p (tail (tail (tail (head e)))) = rw e d
each-corner f r a b c d p (tail (tail (tail (tail m)))) = elim m [ ]

-- the corners of a rectangle in range are in range
pub corner-range : (r : Rect) → rect_in_range r ≡ true → (p : Point) → In p (corners_of r) → point_in_range p ≡ true
unfolding rect_in_range point_in_range
corner-range r e =
    let h = and_parts (in_range r.x && in_range r.y) (in_range (right r) && in_range (top r)) e in
    let near = and_parts (in_range r.x) (in_range r.y) h.0 in
    let far = and_parts (in_range (right r)) (in_range (top r)) h.1 in
    each-corner point_in_range r h.0 (and-make _ _ far.0 near.1) (and-make _ _ near.0 far.1) h.1

-- each row, and each column, has an even number of them
row-even : (y : ℤ) (r : Rect) → odd (on_row y) (corners_of r) ≡ false
unfolding on_row
row-even y r = odd-corners_of (on_row y) r ∙ xor-back (eq_z r.y y) _ ∙ xor_self (eq_z (top r) y)

column-even : (x : ℤ) (r : Rect) → odd (in_column x) (corners_of r) ≡ false
unfolding in_column
column-even x r = odd-corners_of (in_column x) r ∙ sym (xor_assoc (eq_z r.x x) (eq_z (right r) x) _) ∙ xor_self _

-- forward accepts the answer: in range, no point twice, every row and every column even
pub back-accepted : (rs : List Rect) → AcceptedRects rs → Accepted (back_list rs)
back-accepted rs acc =
    record {
      range = λ q m. let r = odd-corner rs q (sym (back-points rs q) ∙ any-in (same q) m (same_refl q)) in corner-range r.0 (acc.range r.0 r.1) q r.2;
      once = rising-once (back_list rs) (back-rising rs);
      rows = λ y. even (on_row y) (row-even y);
      columns = λ x. even (in_column x) (column-even x);
    }
  where
    even : (f : Point → Bool) → ((r : Rect) → odd f (corners_of r) ≡ false) → odd f (back_list rs) ≡ false
    even f h = (back-alike rs acc).parity f ∙ odd-corners f rs ∙ odd-none _ rs (λ r m. h r)
