-- The numbers of a line by rising, in pairs: an even number of them has distances that add up to the number of places with an odd number of them
-- at or below; and the lines of points, one after the other while the points stand in order.
use mathlib.Core.Path.{◌≡◌, refl, sym, ap, ap₂, ◌∙◌}
use Prim.Native.Nat.{ℕ, ◌+◌, ◌*◌, ◌≤◌}
use native.Mathlib.Omega.{arith}
use mathlib.Core.Bool.{Bool, true, false, ◌&&◌, xor, true≢false, and-true}
use mathlib.Core.List.Memᴰ.{head}
use mathlib.Core.List.Memᴰ.{tail}
use mathlib.Core.List.{List, [], ◌∷◌, map, Memᴰ as In}
use lib.ListN.{length}
use lib.IntN.{ℤ, pos, nat_abs, ◌+ℤ◌, ◌-ℤ◌}
use lib.Signed.{le_z, lt_z}
use Rattle.plane.specs.declared.Point.{Point}
use Rattle.plane.specs.Lists.{bit, any, count, odd, sum, keep, only, sum_below}
use Rattle.plane.specs.Words.{eq_z, different, range_size, in_range, before}
use Rattle.plane.specs.Sorted.{sorted_by}
use Rattle.plane.specs.Swaps.{SameItems}
use Rattle.plane.specs.Edge.{pairs, in_pairs, line, line_edge}
use Rattle.plane.proofs.Order.{order, eq_z-is, eq_z-refl, add-up, far-side, abs-most, range-up}
use Rattle.plane.proofs.Bools.{clash, by-no, or_parts, xor-back}
use Rattle.plane.proofs.Sums.{sum-zero, sum-cong, sum-add, any-in, in-only, only_none, only-passes, sum-only, below-cong, below-zero, below-plus}
use Rattle.plane.proofs.Maps.{sum-map, any-map, map-all, map-in}
use Rattle.plane.proofs.Parity.{odd-map, odd-none-of, odd-cons, odd-cong, odd-none, odd-only}
use Rattle.plane.proofs.Swaps.{same-odd, same-any}
use Rattle.plane.proofs.Points.{same-is, after-no, after-yes, after-trans, after_both, before-after}
use Rattle.plane.proofs.Grid.{distance-counts}
use Rattle.plane.proofs.Sorted.{IsOrder, rising-first, sorted-first, sorted-twice, sorted-in, sorted-parity, sorted-same, sorted-only, sorted-map}
use Rattle.plane.proofs.Different.{different-once, at-number, below-different}

-- ---- Numbers in pairs

-- of an even number of numbers without two of them an even number is left
two-less : (a b : ℤ) (zs : List ℤ) → odd (λ x. true) (a ∷ b ∷ zs) ≡ false → odd (λ x. true) zs ≡ false
two-less a b zs e = sym (xor-back true (odd (λ x. true) zs)) ∙ sym (odd-cons _ a (b ∷ zs) ∙ ap (xor true) (odd-cons _ b zs)) ∙ e

-- one number is not an even number of them
not-even : (a : ℤ) → odd (λ x. true) (a ∷ []) ≡ false → ⊥
unfolding xor
not-even a e = true≢false (sym (odd-cons _ a [] ∙ ap (xor true) (odd-none-of _)) ∙ e)

-- an odd number of two and of others that are not lower is at or below c where c is from the first up to the second, or an odd number of the others is
two-more : (a b c : ℤ) (zs : List ℤ) → lt_z b a ≡ false → ((x : ℤ) → In x zs → lt_z x b ≡ false) → bit (odd (λ x. le_z x c) (a ∷ b ∷ zs)) ≡ bit (le_z a c && lt_z c b) + bit (odd (λ x. le_z x c) zs)
unfolding xor
two-more a b c zs h above = rw (odd-cons (λ x. le_z x c) a (b ∷ zs), odd-cons (λ x. le_z x c) b zs) (go (le_z a c) refl (le_z b c) refl (lt_z c b) refl (odd (λ x. le_z x c) zs) (λ e. odd-none _ zs (λ x m. let g = above x m in omega order)))
  where
    go : (s : Bool) → le_z a c ≡ s → (t : Bool) → le_z b c ≡ t → (u : Bool) → lt_z c b ≡ u → (r : Bool) → (u ≡ true → r ≡ false) → bit (xor s (xor t r)) ≡ bit (s && u) + bit r
    go true d true e true f r g = absurd (omega order)
    go true d true e false f true g = refl
    go true d true e false f false g = refl
    go true d false e true f true g = absurd (true≢false (g refl))
    go true d false e true f false g = refl
    go true d false e false f r g = absurd (omega order)
    go false d true e u f r g = absurd (omega order)
    go false d false e u f true g = refl
    go false d false e u f false g = refl

module _ (z : ℤ) (n : ℕ) where
  -- a number is one of the n numbers from z on, or the next after them
  abbrev Among : ℤ → Type 0
  Among x = (le_z z x ≡ true) × (le_z x (z +ℤ pos n) ≡ true)

  -- how many of these have an odd number of the numbers of a list at or below
  abbrev odd_places : List ℤ → ℕ
  odd_places zs = sum_below n (λ i. bit (odd (λ x. le_z x (z +ℤ pos i)) zs))

  -- by rising, an even number of numbers in pairs says how many
  pub pairs-count : (zs : List ℤ) → sorted_by lt_z zs ≡ zs → ((x : ℤ) → In x zs → Among x) → odd (λ x. true) zs ≡ false → odd_places zs ≡ pairs zs
  unfolding pairs
  pairs-count [] s in-n e = below-zero n _ (λ i. ap bit (odd-none-of _))
  pairs-count (a ∷ []) s in-n e = absurd (not-even a e)
  pairs-count (a ∷ b ∷ zs) s in-n e =
      let first = sorted-first rising-first a (b ∷ zs) s in
      let second = sorted-first rising-first b zs first.0 in
      let h = first.1 b (head refl) in
      below-cong n (λ i. two-more a b (z +ℤ pos i) zs h second.1)
      ∙ below-plus n (λ i. bit (le_z a (z +ℤ pos i) && lt_z (z +ℤ pos i) b)) (λ i. bit (odd (λ x. le_z x (z +ℤ pos i)) zs))
      ∙ ap₂ ◌+◌ (distance-counts z a b n (in-n a (head refl)).0 (omega order) (in-n b (tail (head refl))).1) (pairs-count zs second.0 (λ x m. in-n x (tail (tail m))) (two-less a b zs e))

  -- as they stand, too
  in_pairs-count : (zs : List ℤ) → ((x : ℤ) → In x zs → Among x) → odd (λ x. true) zs ≡ false → odd_places zs ≡ in_pairs zs
  unfolding in_pairs
  in_pairs-count zs in-n e =
      below-cong n (λ i. ap bit (sym (sorted-parity rising-first (λ x. le_z x (z +ℤ pos i)) zs)))
      ∙ pairs-count (sorted_by lt_z zs) (sorted-twice rising-first zs) (λ x m. in-n x (sorted-in rising-first zs m)) (sorted-parity rising-first (λ x. true) zs ∙ e)

-- in range, two by two, they are at most the range's size apart
pub pairs-most : (zs : List ℤ) → ((x : ℤ) → In x zs → in_range x ≡ true) → 2 * pairs zs ≤ length zs * range_size
unfolding pairs
pairs-most [] h = omega arith
pairs-most (a ∷ []) h = omega arith
pairs-most (a ∷ b ∷ zs) h =
    let f = range-up a (h a (head refl)) in
    let g = range-up b (h b (tail (head refl))) in
    let s = add-up a (b -ℤ a) in
    let t = far-side a b in
    let apart = abs-most (b -ℤ a) range_size (omega order) (omega order) in
    omega (arith, pairs-most zs (λ x m. h x (tail (tail m))))

-- ---- Lines of points

-- without two points of one line, even lines are even
pub rest-even : (across : Point → ℤ) (p q : Point) (qs : List Point) → across q ≡ across p → ((k : ℤ) → odd (λ r. eq_z (across r) k) (p ∷ q ∷ qs) ≡ false) → (k : ℤ) → odd (λ r. eq_z (across r) k) qs ≡ false
rest-even across p q qs e even k = sym (xor-back (eq_z (across p) k) _) ∙ sym (odd-cons _ p (q ∷ qs) ∙ ap (xor (eq_z (across p) k)) (odd-cons _ q qs ∙ ap (λ j. xor (eq_z j k) (odd (λ r. eq_z (across r) k) qs)) e)) ∙ even k

module _ (across along : Point → ℤ) where
  -- the parity of a test over a line
  pub line-odd : (f : ℤ → Bool) (k : ℤ) (ps : List Point) → odd f (line across along k ps) ≡ odd (λ p. eq_z (across p) k && f (along p)) ps
  unfolding line
  line-odd f k ps = odd-map f along (only (λ p. eq_z (across p) k) ps) ∙ odd-only (λ p. f (along p)) (λ p. eq_z (across p) k) ps

  -- an even line has an even number of numbers
  line-even : (k : ℤ) (ps : List Point) → odd (λ p. eq_z (across p) k) ps ≡ false → odd (λ x. true) (line across along k ps) ≡ false
  line-even k ps e = line-odd (λ x. true) k ps ∙ odd-cong _ (λ p. eq_z (across p) k) ps (λ p m. and-true (eq_z (across p) k)) ∙ e

  -- what is no point's line has none
  line-none : (k : ℤ) (ps : List Point) → any (eq_z k) (map across ps) ≡ false → in_pairs (line across along k ps) ≡ 0
  unfolding line in_pairs sorted_by pairs
  line-none k ps e = rw (only_none (λ p. eq_z (across p) k) ps (λ p m. by-no (eq_z (across p) k) (λ d. clash (any-in (eq_z k) (map-in across m) (omega order)) e)))

  -- the places beside all lines with an odd number of the line's numbers at or below are as many as the lines' pairs say
  pub lines-count : (z : ℤ) (n : ℕ) (ps : List Point) →
      ((p : Point) → In p ps → ((le_z z (across p) ≡ true) × (lt_z (across p) (z +ℤ pos n) ≡ true)) × ((le_z z (along p) ≡ true) × (lt_z (along p) (z +ℤ pos n) ≡ true))) →
      ((k : ℤ) → odd (λ p. eq_z (across p) k) ps ≡ false) → sum_below n (λ j. odd_places z n (line across along (z +ℤ pos j) ps)) ≡ line_edge across along ps
  unfolding line_edge line
  lines-count z n ps inside even =
      below-cong n (λ j. in_pairs-count z n (line across along (z +ℤ pos j) ps) (among (z +ℤ pos j)) (line-even (z +ℤ pos j) ps (even (z +ℤ pos j))))
      ∙ below-different (λ k. in_pairs (line across along k ps)) (map across ps) (λ k. line-none k ps) z n (map-all _ across ps (λ p m. (inside p m).0))
    where
      among : (k x : ℤ) → In x (line across along k ps) → Among z n x
      among k = map-all (Among z n) along (only (λ p. eq_z (across p) k) ps) (λ p m. let h = (inside p (in-only _ ps m)).1 in (h.0, omega order))

-- ---- Points in order, by lines and then along them

-- the order of points is one
points-ordered : IsOrder before
points-ordered = record {
  one_way = λ p q e. by-no (before q p) (λ d. before-after q p d (after-yes p q e));
  through = λ p q r e d. by-no (before p r) (λ f. before-after p r f (after-trans (after-no p q e) (after-no q r d)));
  only = λ p q e d. same-is p q (after_both p q (after-no q p d) (after-no p q e));
}

module _ (across along : Point → ℤ) where
  -- a point as the order of lines sees it: as one of a row
  abbrev turned : Point → Point
  turned p = record { x = along p; y = across p }

  -- p's line comes before q's, or p comes before q on it
  abbrev pub lined_before : Point → Point → Bool
  lined_before p q = before (turned p) (turned q)

  -- that is an order, where the two numbers tell the point
  pub lines-ordered : ((p q : Point) → turned p ≡ turned q → p ≡ q) → IsOrder lined_before
  lines-ordered tell = record { one_way = λ p q. points-ordered.one_way (turned p) (turned q); through = λ p q r. points-ordered.through (turned p) (turned q) (turned r); only = λ p q e d. tell p q (points-ordered.only (turned p) (turned q) e d) }

  -- a point that is not before another is on no earlier line, and on the same line not before it
  no_lower : (p q : Point) → lined_before q p ≡ false → lt_z (across q) (across p) ≡ false
  unfolding before
  no_lower p q e = (or_parts (lt_z (across q) (across p)) _ e).0

  along-line : (p q : Point) → lined_before q p ≡ false → across q ≡ across p → lt_z (along q) (along p) ≡ false
  unfolding before
  along-line p q e d = let h = (or_parts (lt_z (across q) (across p)) _ e).1 in let s : eq_z (across q) (across p) ≡ true = omega order in rw s at h

  -- two points of one line before others add their distance to that line's pairs
  two-before : (p q : Point) (qs : List Point) → across q ≡ across p → (k : ℤ) → pairs (line across along k (p ∷ q ∷ qs)) ≡ bit (eq_z (across p) k) * nat_abs (along q -ℤ along p) + pairs (line across along k qs)
  unfolding line only pairs
  two-before p q qs e k = rw e (go (eq_z (across p) k))
    where
      go : (b : Bool) → pairs (map along (keep b p (keep b q (only (λ r. eq_z (across r) k) qs)))) ≡ bit b * nat_abs (along q -ℤ along p) + pairs (line across along k qs)
      go true = omega arith
      go false = omega arith

  module _ (is : IsOrder lined_before) where
    -- a line of points in order is by rising
    line-rising : (k : ℤ) (qs : List Point) → sorted_by lined_before qs ≡ qs → sorted_by lt_z (line across along k qs) ≡ line across along k qs
    unfolding line
    line-rising k qs e =
        let on : Point → Bool = λ p. eq_z (across p) k in
        sorted-map is rising-first along (only on qs)
        (λ p q m n d. along-line p q d (eq_z-is (across q) k (only-passes on qs n) ∙ sym (eq_z-is (across p) k (only-passes on qs m))))
        (sorted-only is on qs e)

    -- so it says the pairs of the same points in any order
    line-pairs : (k : ℤ) {ps qs : List Point} → SameItems ps qs → sorted_by lined_before qs ≡ qs → in_pairs (line across along k ps) ≡ pairs (line across along k qs)
    unfolding in_pairs line
    line-pairs k {ps} {qs} s e = ap pairs (sorted-same rising-first (line across along k ps) (line across along k qs) (record { sums = λ w. weigh w ps ∙ s.sums (λ p. bit (eq_z (across p) k) * w (along p)) ∙ sym (weigh w qs) }) ∙ line-rising k qs e)
      where
        weigh : (w : ℤ → ℕ) (l : List Point) → sum w (line across along k l) ≡ sum (λ p. bit (eq_z (across p) k) * w (along p)) l
        weigh w l = sum-map w along (only (λ p. eq_z (across p) k) l) ∙ sum-only (λ p. w (along p)) (λ p. eq_z (across p) k) l

    -- of points in order with even lines, the first two are on one line
    pub first_two : (p q : Point) (qs : List Point) → sorted_by lined_before (p ∷ q ∷ qs) ≡ p ∷ q ∷ qs → odd (λ r. eq_z (across r) (across p)) (p ∷ q ∷ qs) ≡ false → eq_z (across q) (across p) ≡ true
    unfolding xor
    first_two p q qs s even = go (eq_z (across q) (across p)) refl
      where
        first : (sorted_by lined_before (q ∷ qs) ≡ q ∷ qs) × ((r : Point) → In r (q ∷ qs) → lined_before r p ≡ false)
        first = sorted-first is p (q ∷ qs) s

        second : (r : Point) → In r qs → lined_before r q ≡ false
        second = (sorted-first is q qs first.0).1

        apart : eq_z (across q) (across p) ≡ false → (r : Point) → In r (q ∷ qs) → eq_z (across r) (across p) ≡ false
        apart e r (head d) = let k : across r ≡ across q = ap across d in omega order
        apart e r (tail m) = let h = no_lower p q (first.1 q (head refl)) in let g = no_lower q r (second r m) in omega order

        go : (b : Bool) → eq_z (across q) (across p) ≡ b → b ≡ true
        go true e = refl
        go false e = absurd (true≢false (sym (odd-cons _ p (q ∷ qs) ∙ ap₂ xor (eq_z-refl (across p)) (odd-none (λ r. eq_z (across r) (across p)) (q ∷ qs) (apart e))) ∙ even))

    -- line by line, over lines of which each point's is there once, or two by two over all the points
    lined-pairs : (ks : List ℤ) (qs : List Point) → sorted_by lined_before qs ≡ qs → ((q : Point) → In q qs → count (eq_z (across q)) ks ≡ 1) → ((k : ℤ) → odd (λ q. eq_z (across q) k) qs ≡ false) → sum (λ k. pairs (line across along k qs)) ks ≡ pairs (map along qs)
    unfolding line pairs only xor
    lined-pairs ks [] s once even = sum-zero (λ k. 0) ks (λ k m. refl)
    lined-pairs ks (p ∷ []) s once even = absurd (true≢false (sym (odd-cons _ p [] ∙ ap₂ xor (eq_z-refl (across p)) (odd-none-of _)) ∙ even (across p)))
    lined-pairs ks (p ∷ q ∷ qs) s once even =
        let e = eq_z-is (across q) (across p) (first_two p q qs s (even (across p))) in
        let d : ℕ = nat_abs (along q -ℤ along p) in
        let rest = (sorted-first is q qs (sorted-first is p (q ∷ qs) s).0).0 in
        let here : count (eq_z (across p)) ks * d ≡ d = rw (once p (head refl)) (omega arith) in
        sum-cong _ (λ k. bit (eq_z (across p) k) * d + pairs (line across along k qs)) ks (λ k m. two-before p q qs e k)
        ∙ sum-add (λ k. bit (eq_z (across p) k) * d) (λ k. pairs (line across along k qs)) ks
        ∙ ap₂ ◌+◌ (at-number (λ k. d) (across p) ks ∙ here) (lined-pairs ks qs rest (λ r m. once r (tail (tail m))) (rest-even across p q qs e even))

    -- so the edge along even lines is that of the points in order, two by two
    pub lines-in-order : {ps qs : List Point} → SameItems ps qs → sorted_by lined_before qs ≡ qs → ((k : ℤ) → odd (λ p. eq_z (across p) k) ps ≡ false) → line_edge across along ps ≡ pairs (map along qs)
    unfolding line_edge
    lines-in-order {ps} {qs} s e even =
        sum-cong _ (λ k. pairs (line across along k qs)) (different (map across ps)) (λ k m. line-pairs k s e)
        ∙ lined-pairs (different (map across ps)) qs e (λ q m. different-once (across q) (map across ps) ∙ ap bit (there q m)) (λ k. sym (same-odd s (λ p. eq_z (across p) k)) ∙ even k)
      where
        there : (q : Point) → In q qs → any (eq_z (across q)) (map across ps) ≡ true
        there q m = any-map (eq_z (across q)) across ps ∙ same-any s (λ p. eq_z (across q) (across p)) ∙ any-in (λ p. eq_z (across q) (across p)) m (eq_z-refl (across q))
