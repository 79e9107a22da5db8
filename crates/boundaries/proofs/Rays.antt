-- The heart: what a boundary marks by the even-odd rule is what its corners mark. And each row and each column has an even number of them.
use mathlib.Core.Path.{◌≡◌, refl, sym, ap, ◌∙◌}
use mathlib.Core.Bool.{Bool, true, false, not, ◌&&◌, ◌||◌, xor, true≢false, and-false}
use mathlib.Core.List.Memᴰ.{head}
use mathlib.Core.List.Memᴰ.{not-nil}
use mathlib.Core.List.Memᴰ.{tail}
use mathlib.Core.List.{List, [], ◌∷◌, Memᴰ as In}
use lib.IntN.{ℤ}
use lib.Signed.{le_z, lt_z}
use Rattle.plane.specs.declared.Point.{Point}
use Rattle.plane.specs.Lists.{any, odd, keep}
use Rattle.plane.specs.Words.{origin, eq_z, point_in_range, same, under, marks, on_row, in_column}
use Rattle.plane.specs.Remaining.{Balanced}
use Rattle.plane.proofs.Order.{order, eq_z-is}
use Rattle.plane.proofs.Bools.{by, or_parts, xor_self, false-xor, xor_same, xor_assoc, xor-swap}
use Rattle.plane.proofs.Parity.{odd-keep, odd-cong, odd-none}
use Rattle.plane.proofs.Points.{same-is}
use Rattle.boundaries.specs.Boundary.{Edge, edge, edges_of, horizontal, vertical, slanted, last_or, is_open, spans, meets, inside, merged_after, merged, turns, corners_after, before_last, boundary_corners}

-- ---- Edges one way or the other

-- an edge that is just one of horizontal and vertical
abbrev pub Straight : Edge → Type 0
Straight e = horizontal e ≡ not (vertical e)

-- at a vertex between two such edges there is a corner exactly when just one of them is vertical
pub turns-vertical : (e f : Edge) → Straight e → Straight f → turns e f ≡ xor (vertical e) (vertical f)
unfolding turns xor
turns-vertical e f s t = rw (s, t) (go (vertical e) (vertical f))
  where
    go : (u v : Bool) → ((not u && v) || (u && not v)) ≡ xor u v
    go true true = refl
    go true false = refl
    go false true = refl
    go false false = refl

-- and when just one is horizontal
pub turns-horizontal : (e f : Edge) → Straight e → Straight f → turns e f ≡ xor (horizontal e) (horizontal f)
unfolding xor
turns-horizontal e f s t = turns-vertical e f s t ∙ rw (s, t) (go (vertical e) (vertical f))
  where
    go : (u v : Bool) → xor u v ≡ xor (not u) (not v)
    go true true = refl
    go true false = refl
    go false true = refl
    go false false = refl

-- ---- Corners of a path, by a test of points and a kind of edges

-- an edge of a kind has just one end that passes
abbrev pub ends : (Edge → Bool) → (Point → Bool) → Edge → Bool
ends d f e = d e && xor (f e.from) (f e.to)

-- what one vertex adds: u and v say whether the edges before and after it are of the kind, s and t whether it and the next vertex pass
one-vertex : (u v s t : Bool) → xor (xor (xor u v && s) (v && xor s t)) (v && t) ≡ (u && s)
unfolding xor
one-vertex true true true true = refl
one-vertex true true true false = refl
one-vertex true true false true = refl
one-vertex true true false false = refl
one-vertex true false true t = refl
one-vertex true false false t = refl
one-vertex false true true true = refl
one-vertex false true true false = refl
one-vertex false true false true = refl
one-vertex false true false false = refl
one-vertex false false s t = refl

module _ (d : Edge → Bool) (turn : (e f : Edge) → Straight e → Straight f → turns e f ≡ xor (d e) (d f)) (f : Point → Bool) where
  -- the corners that pass, and the edges of the kind with one end that passes: their parities differ by the ends of the path
  along : (p q : Point) (vs : List Point) → ((e : Edge) → In e (edges_of (p ∷ q ∷ vs)) → Straight e) → xor (odd f (corners_after p (q ∷ vs))) (odd (ends d f) (edges_of (q ∷ vs))) ≡ xor (d (edge p q) && f q) (d (edge (before_last p (q ∷ vs)) (last_or q vs)) && f (last_or q vs))
  unfolding corners_after edges_of before_last last_or odd
  along p q [] s = rw (xor_self false, xor_self (d (edge p q) && f q))
  along p q (r ∷ vs) s = ap (λ b. xor b (odd (ends d f) (edges_of (q ∷ r ∷ vs)))) (odd-keep f (turns (edge p q) (edge q r)) q (corners_after q (r ∷ vs))) ∙ go _ _ _ (along q r vs (λ e m. s e (tail m)))
    where
      go : (c e l : Bool) → xor c e ≡ xor (d (edge q r) && f r) l → xor (xor (turns (edge p q) (edge q r) && f q) c) (xor (d (edge q r) && xor (f q) (f r)) e) ≡ xor (d (edge p q) && f q) l
      go c e l ih =
          let u : Bool = d (edge p q) in
          let v : Bool = d (edge q r) in
          rw (turn (edge p q) (edge q r) (s (edge p q) (head refl)) (s (edge q r) (tail (head refl))))
          (xor-swap (xor u v && f q) c (v && xor (f q) (f r)) e
          ∙ ap (xor (xor (xor u v && f q) (v && xor (f q) (f r)))) ih
          ∙ sym (xor_assoc (xor (xor u v && f q) (v && xor (f q) (f r))) (v && f r) l)
          ∙ ap (λ z. xor z l) (one-vertex u v (f q) (f r)))

-- ---- A closed path

-- the last edge of a path
pub last-edge : (p q : Point) (vs : List Point) → In (edge (before_last p (q ∷ vs)) (last_or q vs)) (edges_of (p ∷ q ∷ vs))
unfolding edges_of before_last last_or
last-edge p q [] = head refl
last-edge p q (r ∷ vs) = tail (last-edge q r vs)

-- the edges round a path whose last vertex is its first: the last edge comes before them too
pub round-straight : (p q : Point) (vs : List Point) → last_or q vs ≡ p → ((e : Edge) → In e (edges_of (p ∷ q ∷ vs)) → Straight e) → (e : Edge) → In e (edges_of (before_last p (q ∷ vs) ∷ p ∷ q ∷ vs)) → Straight e
unfolding edges_of
round-straight p q vs c s e (head h) = rw h (rw c at (s (edge (before_last p (q ∷ vs)) (last_or q vs)) (last-edge p q vs)))
round-straight p q vs c s e (tail m) = s e m

module _ (d : Edge → Bool) (turn : (e f : Edge) → Straight e → Straight f → turns e f ≡ xor (d e) (d f)) (f : Point → Bool) where
  -- an odd number of the corners round it pass exactly when an odd number of the edges of the kind have one end that passes
  closed-round : (q : Point) (vs : List Point) → last_or q vs ≡ q → ((e : Edge) → In e (edges_of (q ∷ vs)) → Straight e) → odd f (corners_after (before_last origin (q ∷ vs)) (q ∷ vs)) ≡ odd (ends d f) (edges_of (q ∷ vs))
  unfolding edges_of before_last last_or odd corners_after
  closed-round q [] c s = refl
  closed-round q (r ∷ vs) c s =
      let p : Point = before_last q (r ∷ vs) in
      xor_same _ _ (along d turn f p q (r ∷ vs) (round-straight q r vs c s) ∙ rw c (xor_self (d (edge p q) && f q)))

-- ---- Equal neighbours merged

module _ (f : Edge → Bool) (none : (p : Point) → f (edge p p) ≡ false) where
  -- a test that no edge of length 0 passes
  merged-odd : (p : Point) (vs : List Point) → odd f (edges_of (p ∷ merged_after p vs)) ≡ odd f (edges_of (p ∷ vs))
  unfolding merged_after edges_of odd
  merged-odd p [] = refl
  merged-odd p (q ∷ vs) = go (same p q) refl (merged-odd q vs)
    where
      go : (t : Bool) → same p q ≡ t → odd f (edges_of (q ∷ merged_after q vs)) ≡ odd f (edges_of (q ∷ vs)) → odd f (edges_of (p ∷ keep (not t) q (merged_after q vs))) ≡ xor (f (edge p q)) (odd f (edges_of (q ∷ vs)))
      go true e ih = rw (same-is p q e, none q, false-xor (odd f (edges_of (q ∷ vs)))) ih
      go false e ih = rw ih

-- an edge between different vertices is not both
apart : (p q : Point) → same p q ≡ false → (vertical (edge p q) && horizontal (edge p q)) ≡ false
unfolding same horizontal vertical
apart p q d = d

-- a path that is not slanted, merged: each edge is just one of horizontal and vertical
pub merged-straight : (p : Point) (vs : List Point) → slanted (p ∷ vs) ≡ false → (e : Edge) → In e (edges_of (p ∷ merged_after p vs)) → Straight e
unfolding merged_after edges_of slanted any
merged-straight p [] n = λ e i. absurd (not-nil i)
merged-straight p (q ∷ vs) n = let h = or_parts _ _ n in go (same p q) refl h.0 (merged-straight q vs h.1)
  where
    one : (u v : Bool) → (not u && not v) ≡ false → (v && u) ≡ false → u ≡ not v
    one true true m d = absurd (true≢false d)
    one true false m d = refl
    one false true m d = refl
    one false false m d = absurd (true≢false m)

    go : (t : Bool) → same p q ≡ t → (not (horizontal (edge p q)) && not (vertical (edge p q))) ≡ false → ((e : Edge) → In e (edges_of (q ∷ merged_after q vs)) → Straight e) → (e : Edge) → In e (edges_of (p ∷ keep (not t) q (merged_after q vs))) → Straight e
    go true d m ih e i = ih e (rw (same-is p q d) at i)
    go false d m ih e (head h) = rw h (one (horizontal (edge p q)) (vertical (edge p q)) m (apart p q d))
    go false d m ih e (tail i) = ih e i

-- the last vertex stays
pub merged-last : (p : Point) (vs : List Point) → last_or p (merged_after p vs) ≡ last_or p vs
unfolding merged_after last_or
merged-last p [] = refl
merged-last p (q ∷ vs) = go (same p q) refl (merged-last q vs)
  where
    go : (t : Bool) → same p q ≡ t → last_or q (merged_after q vs) ≡ last_or q vs → last_or p (keep (not t) q (merged_after q vs)) ≡ last_or q vs
    go true e ih = rw (same-is p q e) ih
    go false e ih = ih

-- ---- A boundary

-- it is closed
pub shut-last : (p : Point) (vs : List Point) → is_open (p ∷ vs) ≡ false → last_or p vs ≡ p
unfolding is_open
shut-last p vs o = same-is (last_or p vs) p (by (same (last_or p vs) p) (λ e. true≢false (rw e at o)))

-- for a kind of edges, and a test of points
boundary-odd : (d : Edge → Bool) → ((e f : Edge) → Straight e → Straight f → turns e f ≡ xor (d e) (d f)) → (f : Point → Bool) → (vs : List Point) → is_open vs ≡ false → slanted vs ≡ false → odd f (boundary_corners vs) ≡ odd (ends d f) (edges_of vs)
unfolding is_open boundary_corners merged
boundary-odd d turn f [] o n = absurd (true≢false o)
boundary-odd d turn f (p ∷ vs) o n = closed-round d turn f p (merged_after p vs) (merged-last p vs ∙ shut-last p vs o) (merged-straight p vs n) ∙ merged-odd (ends d f) none p vs
  where
    none : (q : Point) → ends d f (edge q q) ≡ false
    none q = rw (xor_self (f q)) (and-false (d (edge q q)))

-- a vertical edge has just one end under a cell exactly when the cell's ray to the left meets it
ray : (a b : ℤ) (e : Edge) → ends vertical (under a b) e ≡ meets a b e
unfolding meets vertical spans under xor
ray a b e = go (eq_z e.from.x e.to.x) refl
  where
    lt_z-not : (u v : ℤ) → lt_z u v ≡ not (le_z v u)
    lt_z-not u v = by_cases (le_z v u) refl
      where
        by_cases : (c : Bool) → le_z v u ≡ c → lt_z u v ≡ not c
        by_cases true d = omega order
        by_cases false d = omega order

    cases : (s t u : Bool) → xor (s && t) (s && u) ≡ (s && ((t && not u) || (u && not t)))
    cases true true true = refl
    cases true true false = refl
    cases true false true = refl
    cases true false false = refl
    cases false t u = refl

    go : (v : Bool) → eq_z e.from.x e.to.x ≡ v → (v && xor (le_z e.from.x a && le_z e.from.y b) (le_z e.to.x a && le_z e.to.y b)) ≡ (v && (le_z e.from.x a && ((le_z e.from.y b && lt_z b e.to.y) || (le_z e.to.y b && lt_z b e.from.y))))
    go true d = rw (← eq_z-is e.from.x e.to.x d, lt_z-not b e.to.y, lt_z-not b e.from.y) (cases (le_z e.from.x a) (le_z e.from.y b) (le_z e.to.y b))
    go false d = refl

-- ends that pass alike where the edge is of the kind
one_end : (d s t : Bool) → (d ≡ true → s ≡ t) → (d && xor s t) ≡ false
one_end true s t h = rw (h refl) (xor_self t)
one_end false s t h = refl

module _ (vs : List Point) (shut : is_open vs ≡ false) (square : slanted vs ≡ false) where
  -- THE HEART: the corners of a boundary mark exactly the cells that it marks by the even-odd rule
  pub corners-mark : (a b : ℤ) → marks (boundary_corners vs) a b ≡ inside a b vs
  unfolding marks inside
  corners-mark a b = boundary-odd vertical turns-vertical (under a b) vs shut square ∙ odd-cong _ _ (edges_of vs) (λ e m. ray a b e)

  -- every row has an even number of them
  pub corners-rows : (y : ℤ) → odd (on_row y) (boundary_corners vs) ≡ false
  unfolding horizontal on_row
  corners-rows y = boundary-odd horizontal turns-horizontal (on_row y) vs shut square ∙ odd-none _ (edges_of vs) (λ e m. one-row e)
    where
      one-row : (e : Edge) → ends horizontal (on_row y) e ≡ false
      one-row e = one_end (horizontal e) (on_row y e.from) (on_row y e.to) (λ d. ap (λ z. eq_z z y) (eq_z-is e.from.y e.to.y d))

  -- and every column
  pub corners-columns : (x : ℤ) → odd (in_column x) (boundary_corners vs) ≡ false
  unfolding vertical in_column
  corners-columns x = boundary-odd vertical turns-vertical (in_column x) vs shut square ∙ odd-none _ (edges_of vs) (λ e m. one-column e)
    where
      one-column : (e : Edge) → ends vertical (in_column x) e ≡ false
      one-column e = one_end (vertical e) (in_column x e.from) (in_column x e.to) (λ d. ap (λ z. eq_z z x) (eq_z-is e.from.x e.to.x d))

  -- so where they are in range, they are points that forward takes
  pub corners-balanced : ((p : Point) → In p (boundary_corners vs) → point_in_range p ≡ true) → Balanced (boundary_corners vs)
  corners-balanced within = record { range = within; rows = corners-rows; columns = corners-columns }
