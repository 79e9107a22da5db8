-- The corners of a boundary by the directions of its edges: two passes, one for the last direction and one for the corners, and no list is made.
use mathlib.Core.Path.{◌≡◌, refl, sym, ap, ap₂, ◌∙◌}
use mathlib.Core.Bool.{Bool, true, false, not, cond, ◌&&◌, xor}
use mathlib.Core.List.Memᴰ.{head}
use mathlib.Core.List.Memᴰ.{tail}
use mathlib.Core.List.{List, [], ◌∷◌, Memᴰ as In}
use Rattle.plane.specs.declared.Point.{Point}
use Rattle.plane.specs.Lists.{keep}
use Rattle.plane.specs.Words.{origin, eq_z, same}
use Rattle.plane.proofs.Bools.{xor_self}
use Rattle.plane.proofs.Points.{same-is}
use Rattle.boundaries.specs.Boundary.{Edge, edge, edges_of, horizontal, vertical, slanted, last_or, is_open, merged_after, merged, corners_after, before_last, boundary_corners}
use Rattle.boundaries.specs.Inner.{corners_by, last_vertical}
use Rattle.boundaries.proofs.Rays.{Straight, turns-vertical, round-straight, merged-straight, merged-last, shut-last}

-- ---- Merged or not

-- equal neighbours change no corner
by-merged : (d : Bool) (p : Point) (vs : List Point) → corners_by d p (merged_after p vs) ≡ corners_by d p vs
unfolding corners_by merged_after
by-merged d p [] = refl
by-merged d p (q ∷ vs) = go (same p q) refl (by-merged d q vs) (by-merged (vertical (edge p q)) q vs)
  where
    go : (t : Bool) → same p q ≡ t → corners_by d q (merged_after q vs) ≡ corners_by d q vs → corners_by (vertical (edge p q)) q (merged_after q vs) ≡ corners_by (vertical (edge p q)) q vs → corners_by d p (keep (not t) q (merged_after q vs)) ≡ cond t (corners_by d q vs) (keep (xor d (vertical (edge p q))) p (corners_by (vertical (edge p q)) q vs))
    go true e ih jh = rw (same-is p q e) ih
    go false e ih jh = rw (e, jh)

-- and no direction
last-merged : (d : Bool) (p : Point) (vs : List Point) → last_vertical d p (merged_after p vs) ≡ last_vertical d p vs
unfolding last_vertical merged_after
last-merged d p [] = refl
last-merged d p (q ∷ vs) = go (same p q) refl (last-merged d q vs) (last-merged (vertical (edge p q)) q vs)
  where
    go : (t : Bool) → same p q ≡ t → last_vertical d q (merged_after q vs) ≡ last_vertical d q vs → last_vertical (vertical (edge p q)) q (merged_after q vs) ≡ last_vertical (vertical (edge p q)) q vs → last_vertical d p (keep (not t) q (merged_after q vs)) ≡ last_vertical (cond t d (vertical (edge p q))) q vs
    go true e ih jh = rw (same-is p q e) ih
    go false e ih jh = ap (λ (b : Bool). last_vertical (cond b d (vertical (edge p q))) q (merged_after q vs)) e ∙ jh

-- ---- Along edges of which each is just one of horizontal and vertical

-- the ends of such an edge differ
straight-apart : (p q : Point) → Straight (edge p q) → same p q ≡ false
unfolding same horizontal vertical
straight-apart p q s = rw s (both (eq_z p.x q.x))
  where
    both : (b : Bool) → (b && not b) ≡ false
    both true = refl
    both false = refl

-- a corner is where the direction changes
by_after : (r p : Point) (ws : List Point) → ((e : Edge) → In e (edges_of (r ∷ p ∷ ws)) → Straight e) → corners_after r (p ∷ ws) ≡ corners_by (vertical (edge r p)) p ws
unfolding corners_after corners_by edges_of
by_after r p [] s = refl
by_after r p (q ∷ ws) s =
    rw (straight-apart p q (s (edge p q) (tail (head refl))))
    (ap₂ (λ (t : Bool) (l : List Point). keep t p l) (turns-vertical (edge r p) (edge p q) (s (edge r p) (head refl)) (s (edge p q) (tail (head refl)))) (by_after p q ws (λ e m. s e (tail m))))

-- the last direction is that of the last edge
last-after : (d : Bool) (p q : Point) (ws : List Point) → ((e : Edge) → In e (edges_of (p ∷ q ∷ ws)) → Straight e) → last_vertical d p (q ∷ ws) ≡ vertical (edge (before_last p (q ∷ ws)) (last_or q ws))
unfolding last_vertical edges_of before_last last_or
last-after d p q [] s = rw (straight-apart p q (s (edge p q) (head refl)))
last-after d p q (r ∷ ws) s = rw (straight-apart p q (s (edge p q) (head refl))) (last-after (vertical (edge p q)) q r ws (λ e m. s e (tail m)))

-- round a closed path of such edges
by-round : (p : Point) (ws : List Point) → ((e : Edge) → In e (edges_of (p ∷ ws)) → Straight e) → last_or p ws ≡ p → corners_after (before_last origin (p ∷ ws)) (p ∷ ws) ≡ corners_by (last_vertical false p ws) p ws
unfolding corners_after corners_by before_last last_or edges_of
by-round p [] s c = refl
by-round p (q ∷ ws) s c =
    let b : Point = before_last p (q ∷ ws) in
    let same_way : vertical (edge b p) ≡ last_vertical false p (q ∷ ws) = ap (λ (r : Point). vertical (edge b r)) (sym c) ∙ sym (last-after false p q ws s) in
    by_after b p (q ∷ ws) (round-straight p q ws c s) ∙ ap (λ (d : Bool). corners_by d p (q ∷ ws)) same_way

-- a closed path that is not slanted: its corners are those found by directions
pub corners-by : (p : Point) (vs : List Point) → is_open (p ∷ vs) ≡ false → slanted (p ∷ vs) ≡ false → boundary_corners (p ∷ vs) ≡ corners_by (last_vertical false p vs) p vs
unfolding boundary_corners merged
corners-by p vs o n =
    by-round p (merged_after p vs) (merged-straight p vs n) (merged-last p vs ∙ shut-last p vs o)
    ∙ ap (λ (d : Bool). corners_by d p (merged_after p vs)) (last-merged false p vs)
    ∙ by-merged (last_vertical false p vs) p vs

-- ---- Vertex by vertex

-- the direction after one vertex more
pub last_step : (d : Bool) (p : Point) (left : List Point) (q : Point) (more : List Point) → left ≡ q ∷ more → last_vertical (cond (same p q) d (vertical (edge p q))) q more ≡ last_vertical d p left
unfolding last_vertical
last_step d p left q more e = ap (last_vertical d p) (sym e)

-- the corners: a vertex is one just if the direction changes with the next vertex
pub by-step : (d : Bool) (p : Point) (left : List Point) (q : Point) (more : List Point) → left ≡ q ∷ more → let e = cond (same p q) d (vertical (edge p q)) in keep (xor d e) p (corners_by e q more) ≡ corners_by d p left
unfolding corners_by
by-step d p left q more f = go (same p q) (vertical (edge p q)) ∙ ap (corners_by d p) (sym f)
  where
    go : (s v : Bool) → keep (xor d (cond s d v)) p (corners_by (cond s d v) q more) ≡ cond s (corners_by d q more) (keep (xor d v) p (corners_by v q more))
    go true v = rw (xor_self d)
    go false v = refl

-- where no vertex is left
pub last_none : (d : Bool) (p : Point) → last_vertical d p [] ≡ d
unfolding last_vertical
last_none d p = refl

pub by-none : (d : Bool) (p : Point) → corners_by d p [] ≡ []
unfolding corners_by
by-none d p = refl
