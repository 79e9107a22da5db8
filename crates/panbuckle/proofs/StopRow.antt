-- The search for the stop row: the highest row of points, the rows that a pass over the points leaves in a table, each by its point
-- in K's column, and when the lowest of them is M.
use Prim.Native.Nat.{◌<◌, ◌≤◌, ◌+◌}
use native.Mathlib.Omega.{arith}
use mathlib.Core.Path.{◌≡◌, refl, sym, ap, ◌∙◌, subst}
use mathlib.Core.Bool.{Bool, true, false, not, ◌&&◌, ◌||◌, xor, and_assoc, and-false}
use mathlib.Core.List.Memᴰ.{not-nil as none_in}
use mathlib.Core.List.{List, [], ◌∷◌, ◌++◌, Memᴰ as In}
use mathlib.Core.Option.{get_or}
use lib.ListN.{length}
use lib.IntN.{ℤ}
use lib.Signed.{le_z, lt_z}
use borrow.Author.Tests.{not-true}
use Rattle.plane.specs.declared.Point.{Point}
use Rattle.plane.specs.Lists.{any, count, odd}
use Rattle.plane.specs.Words.{origin, eq_z, same, on_row}
use Rattle.plane.proofs.Order.{order, eq_z-refl, same-ℤ}
use Rattle.plane.proofs.Bools.{by, by-no, iff, clash, and_parts, and-make, or_right, xor_comm, xor-false, false-xor}
use Rattle.plane.proofs.Sums.{any-find, any-in, count-in}
use Rattle.plane.proofs.Parity.{odd-none-of, odd-cons, odd-cong, odd-none, odd-find, odd-append, odd-one}
use Rattle.plane.proofs.Places.{in-at}
use Rattle.plane.proofs.Points.{same-is, same_refl, odd-without, After, above, along, after-row}
use Rattle.rule.specs.Rule.{first_in, toggle, over, left_of, stops, stopper, pick_m, IsFirst, Picked}
use Rattle.rule.specs.Rows.{Accepted}
use Rattle.rule.proofs.Toggle.{toggle-length, odd-toggle, once-toggle}
use Rattle.rule.proofs.Picks.{least, after-k, higher, clear, first_found, above-in-column, l-right_of, over-make}
use Rattle.panbuckle.specs.Inner.{Begun, cross, over_width, beside, IsHighest, Toggled, whole, given-up, OddBeside, Between}
use Rattle.panbuckle.proofs.Taking.{begun-picked}

-- ---- The highest row

-- without a point on it there is one point less
pub without-highest : {ps : List Point} {h : Point} → IsHighest ps h → length (toggle ps h) + 1 ≡ length ps
without-highest {ps} {h} t = (toggle-length ps h).1 (count-in (same h) t.within (same_refl h))

-- ---- The rows with an odd number of points beside k

-- what being beside k says, and what makes it
beside-parts : (k low end p : Point) → beside k low end p ≡ true → (lt_z p.x k.x ≡ true) × (le_z low.y p.y ≡ true) × (lt_z p.y end.y ≡ true)
unfolding beside
beside-parts k low end p e =
    let h = and_parts (lt_z p.x k.x) (le_z low.y p.y && lt_z p.y end.y) e in
    let g = and_parts (le_z low.y p.y) (lt_z p.y end.y) h.1 in
    (h.0, g.0, g.1)

beside-make : (k low end p : Point) → lt_z p.x k.x ≡ true → le_z low.y p.y ≡ true → lt_z p.y end.y ≡ true → beside k low end p ≡ true
unfolding beside
beside-make k low end p a b c = rw (a, b, c)

-- of no points there are no rows
pub none_beside : (k low end : Point) → OddBeside k low end [] []
unfolding count
none_beside k low end = record { once = λ q. omega arith; parity = λ f. odd-none-of f ∙ sym (odd-none-of (λ p. beside k low end p && f (cross k p))) }

module _ {k low end : Point} {ps rows : List Point} (o : OddBeside k low end ps rows) where
  -- one more point changes the parity of a test just where it is beside k and passes in k's column
  one_more : (p : Point) (f : Point → Bool) (b : Bool) → (beside k low end p && f (cross k p)) ≡ b → xor b (odd f rows) ≡ odd (λ q. beside k low end q && f (cross k q)) (ps ++ (p ∷ []))
  one_more p f b e =
      let g : Point → Bool = λ q. beside k low end q && f (cross k q) in
      xor_comm b (odd f rows)
      ∙ ap (λ t. xor t b) (o.parity f)
      ∙ ap (xor (odd g ps)) (sym (odd-cons g p [] ∙ ap (xor (g p)) (odd-none-of g) ∙ xor-false (g p) ∙ e))
      ∙ sym (odd-append g ps (p ∷ []))

  -- one more point beside k toggles its row
  more-beside : (p : Point) → beside k low end p ≡ true → OddBeside k low end (ps ++ (p ∷ [])) (toggle rows (cross k p))
  more-beside p e = record { once = once-toggle rows (cross k p) o.once; parity = λ f. odd-toggle f rows (cross k p) ∙ one_more p f (f (cross k p)) (rw e) }

  -- one that is not beside k changes nothing
  more-apart : (p : Point) → beside k low end p ≡ false → OddBeside k low end (ps ++ (p ∷ [])) rows
  more-apart p e = record { once = o.once; parity = λ f. sym (false-xor (odd f rows)) ∙ one_more p f false (rw e) }

  -- each row is that of a point beside k
  of-beside : {q : Point} → In q rows → (p : Point) × In p ps × (beside k low end p ≡ true) × (q ≡ cross k p)
  of-beside {q} n =
      let r = odd-find (λ p. beside k low end p && same q (cross k p)) ps (sym (o.parity (same q)) ∙ odd-one (same q) n (same_refl q) (o.once q)) in
      let h = and_parts (beside k low end r.0) (same q (cross k r.0)) r.2 in
      (r.0, r.1, h.0, same-is q (cross k r.0) h.1)

  -- it is in k's column, from low's row to below the end
  row-between : {q : Point} → In q rows → (q.x ≡ k.x) × (le_z low.y q.y ≡ true) × (lt_z q.y end.y ≡ true)
  row-between n =
      let b = of-beside n in
      let d = beside-parts k low end b.0 b.2 in
      rw b.3 (refl, d.1, d.2)

  -- without the highest row, the rows are those below it
  lowered : {h : Point} → IsHighest rows h → OddBeside k low h ps (toggle rows h)
  unfolding same
  lowered {h} t = record { once = once-toggle rows h o.once; parity = parity }
    where
      below : (q : Point) → In q rows → not (same h q) ≡ lt_z q.y h.y
      below q n =
          let d = (row-between n).0 in
          let e = (row-between t.within).0 in
          let g = t.none_above q n in
          iff _ _
          (λ a. by (lt_z q.y h.y) (λ b. clash (and-make (eq_z h.x q.x) (eq_z h.y q.y) (omega order) (omega order)) (not-true (same h q) a)))
          (λ a. let b : eq_z h.y q.y ≡ false = omega order in rw b (ap not (and-false (eq_z h.x q.x))))

      cut : (p : Point) → (beside k low end p && lt_z p.y h.y) ≡ beside k low h p
      cut p =
          let high = (row-between t.within).2 in
          iff _ _
          (λ a.
          let b = and_parts (beside k low end p) (lt_z p.y h.y) a in
          let d = beside-parts k low end p b.0 in
          beside-make k low h p d.0 d.1 b.1)
          (λ a.
          let d = beside-parts k low h p a in
          let e = d.2 in
          and-make (beside k low end p) (lt_z p.y h.y) (beside-make k low end p d.0 d.1 (omega order)) e)

      parity : (f : Point → Bool) → odd f (toggle rows h) ≡ odd (λ p. beside k low h p && f (cross k p)) ps
      parity f =
          odd-toggle f rows h
          ∙ odd-without f t.within (o.once h)
          ∙ odd-cong _ (λ q. lt_z q.y h.y && f q) rows (λ q n. ap (λ b. b && f q) (below q n))
          ∙ o.parity (λ q. lt_z q.y h.y && f q)
          ∙ odd-cong _ _ ps (λ p n. sym (and_assoc (beside k low end p) (lt_z p.y h.y) (f (cross k p))) ∙ ap (λ b. b && f (cross k p)) (cut p))

-- the highest of two rows or more is above low
lowered-above : {k low end h : Point} {ps rows : List Point} → OddBeside k low end ps rows → IsHighest rows h → 2 ≤ length rows → lt_z low.y h.y ≡ true
lowered-above {h = h} {rows = rows} o t many =
    let l : 0 < length (toggle rows h) = omega (arith, without-highest t) in
    let b = row-between (lowered o t) (in-at (toggle rows h) 0 origin l) in
    let c = b.1 in
    let d = b.2 in
    omega order

-- ---- A pass over the points: the rows of those passed, and the next point p

module _ {k low end : Point} (p : Point) {ps rows : List Point} (o : OddBeside k low end ps rows) where
  -- p is not beside k: the rows stay
  pub passed_apart : beside k low end p ≡ false → OddBeside k low end (ps ++ (p ∷ [])) rows
  passed_apart b = more-apart o p b

  -- p is beside k: its row is toggled, and the end stays above low and not above m
  pub passed-beside : {m e : Point} {rs : List Point} → Between low m end → beside k low end p ≡ true → Toggled (cross k p) end rows e rs → Between low m e × OddBeside k low e (ps ++ (p ∷ [])) rs
  passed-beside c b whole = (c, more-beside o p b)
  passed-beside {m} {e} c b (given-up many t) =
      let q = more-beside o p b in
      let high = (row-between q t.within).2 in
      let d = c.not-above in
      (record { above = lowered-above q t many; not-above = omega order }, lowered q t)

-- ---- M

-- on a row from low's to below the end, a point is beside k just where it is left of k
left-beside : (k low end q : Point) → le_z low.y q.y ≡ true → lt_z q.y end.y ≡ true → (p : Point) → (beside k low end p && same (cross k q) (cross k p)) ≡ left_of k.x q.y p
unfolding left_of same on_row
left-beside k low end q from to p = iff _ _ there back
  where
    there : (beside k low end p && same (cross k q) (cross k p)) ≡ true → left_of k.x q.y p ≡ true
    there e =
        let h = and_parts (beside k low end p) (same (cross k q) (cross k p)) e in
        let d = (and_parts (eq_z k.x k.x) (eq_z q.y p.y) h.1).1 in
        and-make (eq_z p.y q.y) (lt_z p.x k.x) (omega order) (beside-parts k low end p h.0).0

    back : left_of k.x q.y p ≡ true → (beside k low end p && same (cross k q) (cross k p)) ≡ true
    back e =
        let h = and_parts (eq_z p.y q.y) (lt_z p.x k.x) e in
        let d = h.0 in
        and-make (beside k low end p) _ (beside-make k low end p h.1 (omega order) (omega order)) (and-make (eq_z k.x k.x) (eq_z q.y p.y) (eq_z-refl k.x) (omega order))

-- some point is over the width, for one of K's column is above K
over_first : {ps : List Point} {k l : Point} {z : ℤ} → Accepted ps → Picked ps k l z → IsFirst (over_width k l) ps (get_or (first_in (over_width k l) ps) k)
unfolding over_width
over_first {ps} {k} {l} acc c =
    let q = above-in-column acc c.first-k in
    let e = q.2 in
    let r = l-right_of c in
    let a : le_z k.x q.0.x ≡ true = omega order in
    let b : lt_z q.0.x l.x ≡ true = omega order in
    first_found (over_width k l) ps k q.1 (rw (q.3, a, b))

-- a row from low's to below the end is in the table just where an odd number of points are left of k on it
rows_left : {k low end : Point} {ps rows : List Point} → OddBeside k low end ps rows → (q : Point) → le_z low.y q.y ≡ true → lt_z q.y end.y ≡ true → odd (same (cross k q)) rows ≡ odd (left_of k.x q.y) ps
rows_left {k} {low} {end} {ps} o q from to = o.parity (same (cross k q)) ∙ odd-cong _ _ ps (λ p n. left-beside k low end q from to p)

-- a point left of K is above K's row
left-above : {ps : List Point} {k l p : Point} {z : ℤ} → Picked ps k l z → In p ps → lt_z p.x k.x ≡ true → lt_z k.y p.y ≡ true
left-above {k = k} {p = p} c n h = go (after-k c p n)
  where
    go : After p k → lt_z k.y p.y ≡ true
    go (above g) = g
    go (along e g) = absurd (omega order)

-- no row below low's has an odd number of points left of k
pub record EvenBelow (k low : Point) (ps : List Point) : Type 0 where
  pub even : (q : Point) → lt_z q.y low.y ≡ true → odd (left_of k.x q.y) ps ≡ false

-- K's row is the lowest, so no row below it has
pub even-first : {ps : List Point} {k l : Point} → Begun ps k l → EvenBelow k k ps
unfolding left_of on_row
even-first {ps} {k} g = record {
  even = λ q low. odd-none (left_of k.x q.y) ps (λ p i. by-no (left_of k.x q.y p) (λ e.
      let d = (and_parts (eq_z p.y q.y) (lt_z p.x k.x) e).0 in
      let h = after-row (after-k (begun-picked g) p i) in
      omega order));
}

-- nor has one below r's, where that is not above the end and no row of the table is below it
even-to : {ps rows : List Point} {k low end r : Point} → EvenBelow k low ps → OddBeside k low end ps rows → le_z r.y end.y ≡ true → ((q : Point) → In q rows → le_z r.y q.y ≡ true) → EvenBelow k r ps
unfolding same
even-to {ps} {rows} {k} {low} {end} {r} b o high lowest = record { even = λ q d. by-no (odd (left_of k.x q.y) ps) (λ e. go q d e (lt_z q.y low.y) refl) }
  where
    go : (q : Point) → lt_z q.y r.y ≡ true → odd (left_of k.x q.y) ps ≡ true → (t : Bool) → lt_z q.y low.y ≡ t → ⊥
    go q d e true t = clash e (b.even q t)
    go q d e false t =
        let g = odd-find (same (cross k q)) rows (rows_left o q (omega order) (omega order) ∙ e) in
        let i = (and_parts (eq_z k.x g.0.x) (eq_z q.y g.0.y) g.2).1 in
        let j = lowest g.0 g.1 in
        omega order

-- nor has one below the end, where the table is empty
pub even-on : {ps rows : List Point} {k low end : Point} → EvenBelow k low ps → OddBeside k low end ps rows → rows ≡ [] → EvenBelow k end ps
even-on b o e = even-to b o (omega order) (λ q n. absurd (none_in (subst (In q) e n)))

-- with the first point m over the width: a row of a point above K that stops, not above m's, and with no odd row below it, is row M
module _ {ps : List Point} {k l m p : Point} {z : ℤ} (c : Picked ps k l z) (w : IsFirst (over_width k l) ps m) (n : In p ps) (high : lt_z k.y p.y ≡ true) (stop : stops ps k.x l.x p.y ≡ true) (low : le_z p.y m.y ≡ true) (b : EvenBelow k p ps) where
  -- it is not above M
  not-above : le_z p.y z ≡ true
  unfolding stopper stops over over_width on_row
  not-above = by (le_z p.y z) (λ d. go d (any (over k.x l.x s.y) ps) refl (and_parts (lt_z k.y s.y) (stops ps k.x l.x s.y) c.first-m.passes).1)
    where
      s : Point
      s = c.on-m

      on-m : s.y ≡ z
      on-m = c.row-m

      above-k : lt_z k.y s.y ≡ true
      above-k = let h = higher c in let e = on-m in omega order

      go : le_z p.y z ≡ false → (t : Bool) → any (over k.x l.x s.y) ps ≡ t → (t || odd (left_of k.x s.y) ps) ≡ true → ⊥
      go d true e t =
          let q = any-find (over k.x l.x s.y) ps e in
          let i = on-m in
          let j = above-k in
          let a = and_parts (eq_z q.0.y s.y) (le_z k.x q.0.x && lt_z q.0.x l.x) q.2 in
          let g = a.0 in
          let first : le_z m.y q.0.y ≡ true = after-row (least w q.0 q.1 (and-make (lt_z k.y q.0.y) _ (omega order) a.1)) in
          omega order
      go d false e t = let i = on-m in clash t (b.even s (omega order))

  -- nor below, since it stops: so it is row M
  is_m : cross k p ≡ record { x = k.x; y = z }
  is_m =
      let e = not-above in
      let d : le_z z p.y ≡ true = by (le_z z p.y) (λ g. clash stop (clear c p n high (omega order))) in
      ap (λ y. record { x = k.x; y = y }) (same-ℤ p.y z (omega order))

-- with K and L, and the first point m over the width
module _ {ps : List Point} {k l m : Point} (g : Begun ps k l) (at : m ≡ get_or (first_in (over_width k l) ps) k) where
  -- m is over the width
  first-over : IsFirst (over_width k l) ps m
  first-over = rw at (over_first g.accepted (begun-picked g))

  -- with no odd row below m's, that is row M
  pub over-stops : {low : Point} → EvenBelow k low ps → lt_z low.y m.y ≡ false → cross k m ≡ record { x = k.x; y = pick_m k l ps }
  unfolding over_width stops on_row
  over-stops {low} b d =
      let w = first-over in
      let a = and_parts (lt_z k.y m.y) (le_z k.x m.x && lt_z m.x l.x) w.passes in
      let e = and_parts (le_z k.x m.x) (lt_z m.x l.x) a.1 in
      let inside = any-in (over k.x l.x m.y) w.within (over-make k.x l.x m.y m (eq_z-refl m.y) e.0 e.1) in
      is_m (begun-picked g) w w.within a.0 (rw inside) (omega order) (record { even = λ q h. b.even q (omega order) })

  -- the lowest of the rows that a pass leaves in a table is row M
  pub odd-stops : {low end r : Point} {rows : List Point} → EvenBelow k low ps → OddBeside k low end ps rows → Between low m end → IsFirst (λ p. true) rows r → r ≡ record { x = k.x; y = pick_m k l ps }
  unfolding stops
  odd-stops {low} {end} {r} {rows} b o t f =
      let h = begun-picked g in
      let q = of-beside o f.within in
      let p = q.0 in
      let d = beside-parts k low end p q.2 in
      let below_end = d.2 in
      let end-below-m = t.not-above in
      let odd-row : odd (left_of k.x p.y) ps ≡ true = sym (rows_left o p d.1 d.2) ∙ rw (← q.3) (odd-one (same r) f.within (same_refl r) (o.once r)) in
      let lowest : (s : Point) → In s rows → le_z p.y s.y ≡ true = λ s i. rw q.3 at (after-row (least f s i refl)) in
      q.3 ∙ is_m h first-over q.1 (left-above h q.1 d.0) (or_right (any (over k.x l.x p.y) ps) _ odd-row) (omega order) (even-to b o (omega order) lowest)
