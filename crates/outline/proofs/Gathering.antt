-- A batch in the making: keys given one after another.
use Prim.Native.Nat.{ℕ, suc, ◌≤◌, ◌<◌}
use native.Mathlib.Omega.{arith}
use mathlib.Core.Path.{◌≡◌, refl, sym, ◌∙◌}
use mathlib.Core.Bool.{Bool, true, false, ◌&&◌, xor, false≢true, and-false}
use mathlib.Core.List.Memᴰ.{head}
use mathlib.Core.List.Memᴰ.{tail}
use mathlib.Core.List.{List, [], ◌∷◌, ◌++◌, append_assoc, Memᴰ as In}
use lib.ListN.{length, get_or, take}
use lib.IntN.{ℤ}
use lib.Dec.{eqb, leb, ltb}
use borrow.Author.Tests.{ltb-true, ltb-false, leb-true, leb-false, lt-ltb, le-ltb, le-leb, lt-leb, eqb-true}
use Rattle.plane.specs.declared.Point.{Point}
use Rattle.plane.specs.declared.Rect.{Rect}
use Rattle.plane.specs.Lists.{odd}
use Rattle.plane.specs.Words.{point_in_range, rect_in_range, flat, corners_of, right, top}
use Rattle.plane.specs.Keys.{key_of}
use Rattle.plane.proofs.Bools.{clash, by, by-no, and_parts, and-make, or_parts, xor-false, xor_assoc}
use Rattle.plane.proofs.Parity.{odd-cons, odd-none-of, odd-none, odd-append, odd-cong}
use Rattle.plane.proofs.Places.{in-at}
use Rattle.plane.proofs.Points.{before-along}
use Rattle.plane.proofs.Keys.{key-order, range-fits}
use Rattle.rule.proofs.Backward.{solid-sides, corner-range}
use Rattle.outline.specs.Inner.{keys_of, climbs, OddOnes, within, misses, Keys, Gathers, Takes}
use Rattle.outline.proofs.Climbs.{climbs-odd, climbs-first, climbs-cut}

-- ---- A key's reach

-- a key within is from the start to below the end
within-parts : {start end k : ℕ} → within start end k ≡ true → (start ≤ k) × (k < end)
unfolding within
within-parts {start} {end} {k} e = let h = and_parts (leb start k) (ltb k end) e in (leb-true start k h.0, ltb-true k end h.1)

-- with a lower end one test more is asked
within-lower : (start low end k : ℕ) (b : Bool) → low ≤ end → (within start low k && b) ≡ (within start end k && (ltb k low && b))
unfolding within
within-lower start low end k b l = go (ltb k low) refl
  where
    go : (c : Bool) → ltb k low ≡ c → ((leb start k && c) && b) ≡ ((leb start k && ltb k end) && (c && b))
    go true d = rw (lt-ltb k end (omega (arith, ltb-true k low d)))
    go false d = rw (and-false (leb start k), and-false (leb start k && ltb k end))

-- a key that is missed, between two others, is not within
missed-out : (start end left right k : ℕ) → left ≤ k → k ≤ right → misses start end left right ≡ true → within start end k ≡ false
missed-out start end left right k l m e = by-no (within start end k) (λ w. let h = within-parts w in false≢true (rw (le-ltb right start (omega arith), lt-leb end left (omega arith)) at e))

-- a key that is not missed is within
not-missed : (start end k : ℕ) → misses start end k k ≡ false → within start end k ≡ true
unfolding within
not-missed start end k e = let h = or_parts (ltb k start) (leb end k) e in and-make (leb start k) (ltb k end) (le-leb start k (ltb-false k start h.0)) (lt-ltb k end (leb-false end k h.1))

-- ---- Keys taken

-- keys taken one after another are taken
pub takes-then : {js ks : List ℕ} {a b c : Keys} → Takes js a b → Takes ks b c → Takes (js ++ ks) a c
takes-then {ks = ks} s t = record { start = t.start ∙ s.start; takes = λ asked all rest g. rw (← s.start) (t.takes asked all rest (rw s.start (s.takes asked all (ks ++ rest) (rw append_assoc at g)))) }

-- none are by doing nothing
pub takes-none : {b : Keys} → Takes [] b b
takes-none = record { start = refl; takes = λ asked all rest g. g }

-- a key that comes counts where it is within
came : {start asked end k : ℕ} {all rest kept : List ℕ} → Gathers start asked end all (k ∷ rest) kept → (f : ℕ → Bool) → xor (xor (odd f kept) (within start end k && f k)) (odd (λ j. within start end j && f j) rest) ≡ odd (λ j. within start end j && f j) all
came {k = k} {rest = rest} g f = xor_assoc _ _ _ ∙ (rw (odd-cons _ k rest) at (g.parity f))

-- a key that is missed, between two others, is taken by doing nothing
pub takes-missed : {k : ℕ} {b : Keys} (low high : ℕ) → low ≤ k → k ≤ high → misses b.start b.end low high ≡ true → Takes (k ∷ []) b b
takes-missed {k} {b} low high l m e = record { start = refl; takes = λ asked all rest g. record { beyond = g.beyond; not_beyond = g.not_beyond; parity = λ f. rw (missed-out b.start b.end low high k l m e, xor-false) at (came g f) } }

-- a key that is not missed is taken where it is put after the others
pub takes-put : {k : ℕ} {b : Keys} → misses b.start b.end k k ≡ false → Takes (k ∷ []) b (record { start = b.start; end = b.end; keys = b.keys ++ (k ∷ []) })
takes-put {k} {b} e = record {
  start = refl;
  takes = λ asked all rest g. record {
    beyond = g.beyond;
    not_beyond = g.not_beyond;
    parity = λ f. rw (odd-append f b.keys (k ∷ []), odd-cons f k [], odd-none-of f, xor-false) (rw (not-missed b.start b.end k e) at (came g f));
  };
}

-- ---- Room made

-- for the keys that are kept their odd ones do as well
gathers-odd : {start asked end : ℕ} {all rest kept ks : List ℕ} → OddOnes kept ks → Gathers start asked end all rest kept → Gathers start asked end all rest ks
gathers-odd o g = record { beyond = g.beyond; not_beyond = g.not_beyond; parity = λ f. rw (o.parity f) (g.parity f) }

-- kept keys that climb are within: each stands an odd number of times, and no key does that is not
gathers-within : {start asked end k : ℕ} {all rest ks : List ℕ} → climbs ks ≡ true → Gathers start asked end all rest ks → In k ks → within start end k ≡ true
gathers-within {start} {end = end} {k} {all} {rest} e g m = by (within start end k) (λ n. clash (climbs-odd e m) (sym (xor-false _) ∙ (rw (none n rest, none n all) at (g.parity (eqb k)))))
  where
    none : within start end k ≡ false → (l : List ℕ) → odd (λ j. within start end j && eqb k j) l ≡ false
    none n l = odd-none _ l (λ j i. by-no (within start end j && eqb k j) (λ d.
        let h = and_parts (within start end j) (eqb k j) d in
        clash h.0 (rw (← eqb-true k j h.1) n)))

-- they may be cut at a place after the first: they end with the key there
gathers-cut : {start asked end : ℕ} {all rest ks : List ℕ} (i : ℕ) → suc i < length ks → climbs ks ≡ true → Gathers start asked end all rest ks → Gathers start asked (get_or ks (suc i) 0) all rest (take (suc i) ks)
gathers-cut {start} {end = end} {all} {rest} {ks} i l e g =
    let low : ℕ = get_or ks (suc i) 0 in
    let first = within-parts (gathers-within e g (in-at ks 0 0 (omega arith))) in
    let cut = within-parts (gathers-within e g (in-at ks (suc i) 0 l)) in
    let lower : (f : ℕ → Bool) (m : List ℕ) → odd (λ k. within start low k && f k) m ≡ odd (λ k. within start end k && (ltb k low && f k)) m = λ f m. odd-cong _ _ m (λ k j. within-lower start low end k (f k) (omega arith)) in
    record {
      beyond = omega (arith, climbs-first ks i e l);
      not_beyond = omega arith;
      parity = λ f. rw (climbs-cut f ks (suc i) e l, lower f rest, lower f all) (g.parity (λ k. ltb k low && f k));
    }

-- no key is taken where they are cut, and end with the first key that is not kept
pub takes-cut : {b c : Keys} (i : ℕ) → suc i < length c.keys → c.start ≡ b.start → c.end ≡ b.end → OddOnes b.keys c.keys → Takes [] b (record { start = c.start; end = get_or c.keys (suc i) 0; keys = take (suc i) c.keys })
takes-cut i l s e o = record { start = s; takes = λ asked all rest g. gathers-cut i l o.climbing (gathers-odd o g) }

-- ---- The corners of a rectangle

-- the corners' keys, a row after the other, the left one first, which is below the right one
pub record CornerKeys (r : Rect) (left right top_left top_right : ℕ) : Type 0 where
  pub keys : keys_of (corners_of r) ≡ left ∷ right ∷ top_left ∷ top_right ∷ []
  pub low : left < right
  pub high : top_left < top_right

-- on a row of a rectangle the key of the left corner is below that of the right one
row-rises : (r : Rect) (y : ℤ) → flat r ≡ false → point_in_range (record { x = r.x; y = y }) ≡ true → point_in_range (record { x = right r; y = y }) ≡ true → key_of (record { x = r.x; y = y }) < key_of (record { x = right r; y = y })
row-rises r y solid a b =
    let p : Point = record { x = r.x; y = y } in
    let q : Point = record { x = right r; y = y } in
    ltb-true (key_of p) (key_of q) (key-order p q (range-fits p a) (range-fits q b) ∙ before-along r.x (right r) y (solid-sides r solid).0)

-- of a rectangle that is not flat, and in range
pub corner-keys : (r : Rect) {ks : List ℕ} → flat r ≡ false → rect_in_range r ≡ true → ks ≡ keys_of (corners_of r) → CornerKeys r (get_or ks 0 0) (get_or ks 1 0) (get_or ks 2 0) (get_or ks 3 0)
unfolding corners_of
corner-keys r solid range e =
    let inside = corner-range r range in
    rw e (record {
      keys = refl;
      low = row-rises r r.y solid (inside _ (head refl)) (inside _ (tail (head refl)));
      high = row-rises r (top r) solid (inside _ (tail (tail (head refl)))) (inside _ (tail (tail (tail (head refl)))));
    })

-- the keys of a row that is missed are taken by doing nothing
row-missed : {low high : ℕ} {b : Keys} → low < high → misses b.start b.end low high ≡ true → Takes (low ∷ high ∷ []) b b
row-missed {low} {high} l m = takes-then (takes-missed low high (omega arith) (omega arith) m) (takes-missed low high (omega arith) (omega arith) m)

module _ {left right top_left top_right : ℕ} {r : Rect} (k : CornerKeys r left right top_left top_right) where
  -- the four keys, taken one after another, are taken
  pub takes-corners : {a b c d e : Keys} → Takes (left ∷ []) a b → Takes (right ∷ []) b c → Takes (top_left ∷ []) c d → Takes (top_right ∷ []) d e → Takes (keys_of (corners_of r)) a e
  takes-corners s t p q = rw k.keys (takes-then s (takes-then t (takes-then p q)))

  -- and so are those of two rows that are missed
  pub corners-missed : {b : Keys} → misses b.start b.end left right ≡ true → misses b.start b.end top_left top_right ≡ true → Takes (keys_of (corners_of r)) b b
  corners-missed m n = rw k.keys (takes-then (row-missed k.low m) (row-missed k.high n))
