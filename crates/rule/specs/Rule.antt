-- The forward rule of document 01: K, L, the amended stop row M, the rectangle, the four toggles, and the list.
use Rattle.std.specs.Prelude.{ℕ, zero, suc, ◌-◌, ◌*◌, ◌≡◌, Bool, true, false, cond, ◌&&◌, ◌||◌, length, get_or, take, set, ℤ, ◌-ℤ◌}
use mathlib.Core.List.{List, [], ◌∷◌, ◌++◌, map, Memᴰ as In}
use Rattle.std.proofs.Math.Option
use Rattle.std.proofs.Math.Option.{Option, none, some}
use Rattle.std.specs.Int.Signed.{le_z, lt_z}
use Rattle.plane.specs.declared.Point.{Point}
use Rattle.plane.specs.declared.Rect.{Rect}
use Rattle.plane.specs.Lists.{any, odd}
use Rattle.plane.specs.Words.{different, origin, same, on_row, before}

-- ---- K, L and M

-- the earlier of a point and what was found, in the order of y, then x
abbrev pub earlier : Point → Option Point → Point
earlier p none = p
earlier p (some q) = cond (before q p) q p

-- the point with what was found, if it passed
abbrev pub or_found : Bool → Point → Option Point → Option Point
or_found true p o = some (earlier p o)
or_found false p o = o

-- the first point, in the order of y, then x, of those that pass a test
unfoldable pub first_in : (Point → Bool) → List Point → Option Point
first_in f [] = none
first_in f (p ∷ ps) = or_found (f p) p (first_in f ps)

-- K is the leftmost point of the lowest row
unfoldable pub pick_k : List Point → Point
pick_k ps = Option.get_or (first_in (λ p. true) ps) origin

-- right of K on K's row
unfoldable pub right_of : (k : Point) → Point → Bool
right_of k p = on_row k.y p && lt_z k.x p.x

-- L is the next leftmost on that row
unfoldable pub pick_l : (k : Point) → List Point → Point
pick_l k ps = Option.get_or (first_in (right_of k) ps) k

-- on row y, with xK ≤ x < xL
unfoldable pub over : (xk xl y : ℤ) → Point → Bool
over xk xl y p = on_row y p && (le_z xk p.x && lt_z p.x xl)

-- on row y, with x < xK
unfoldable pub left_of : (xk y : ℤ) → Point → Bool
left_of xk y p = on_row y p && lt_z p.x xk

-- row y stops a rectangle between xK and xL: it has a point with xK ≤ x < xL, or an odd number of points with x < xK
unfoldable pub stops : List Point → (xk xl y : ℤ) → Bool
stops ps xk xl y = any (over xk xl y) ps || odd (left_of xk y) ps

-- above K, on a row that stops the rectangle between K and L
unfoldable pub stopper : (k l : Point) → List Point → Point → Bool
stopper k l ps p = lt_z k.y p.y && stops ps k.x l.x p.y

-- M is the lowest row above K's that stops the rectangle
unfoldable pub pick_m : (k l : Point) → List Point → ℤ
pick_m k l ps = (Option.get_or (first_in (stopper k l ps) ps) k).y

-- k is in the list and passes a test, and no point of the list that passes comes before it
pub record IsFirst (f : Point → Bool) (ps : List Point) (k : Point) : Type 0 where
  pub within : In k ps
  pub passes : f k ≡ true
  pub none_before : (q : Point) → In q ps → f q ≡ true → before q k ≡ false

-- the three exist: K is the first of all points, L the first right of it on its row, and M the row of the first that stops
pub record Picked (ps : List Point) (k l : Point) (m : ℤ) : Type 0 where
  pub first-k : IsFirst (λ p. true) ps k
  pub first-l : IsFirst (right_of k) ps l
  pub on-m : Point
  pub first-m : IsFirst (stopper k l ps) ps on-m
  pub row-m : on-m.y ≡ m

-- ---- The rectangle and the toggles

-- X = xK, Y = yK, W = xL - xK, H = M - yK
unfoldable pub rect_of : (k l : Point) (m : ℤ) → Rect
rect_of k l m = record { x = k.x; y = k.y; w = l.x -ℤ k.x; h = m -ℤ k.y }

-- one place further
abbrev pub further : Bool → Option ℕ → Option ℕ
further true o = some 0
further false none = none
further false (some i) = some (suc i)

-- the place where a point stands, if it does
unfoldable pub place_of : Point → List Point → Option ℕ
place_of p [] = none
place_of p (q ∷ qs) = further (same p q) (place_of p qs)

-- removing moves the last point into the freed place
unfoldable pub remove : List Point → ℕ → List Point
remove ps i = take (length ps - 1) (set ps i (get_or ps (length ps - 1) origin))

-- adding puts the point after the last
unfoldable pub add : List Point → Point → List Point
add ps p = ps ++ (p ∷ [])

-- at a place the point is removed, at none it is added
abbrev pub toggle_at : Option ℕ → List Point → Point → List Point
toggle_at none ps p = add ps p
toggle_at (some i) ps p = remove ps i

-- toggling a present point removes it; an absent one is added
unfoldable pub toggle : List Point → Point → List Point
toggle ps p = toggle_at (place_of p ps) ps p

-- toggle four points in this order: K, L, (xK, M), (xL, M)
unfoldable pub toggle_four : List Point → (k l : Point) (m : ℤ) → List Point
toggle_four ps k l m = toggle (toggle (toggle (toggle ps k) l) (record { x = k.x; y = m })) (record { x = l.x; y = m })

-- ---- A step and the list

-- a step's rectangle, and the points that it leaves
pub record Taken : Type 0 where
  pub rect : Rect
  pub left : List Point

-- the rectangle between K, L and M, with its four toggles
unfoldable pub take_rect : (k l : Point) (m : ℤ) → List Point → Taken
take_rect k l m ps = record { rect = rect_of k l m; left = toggle_four ps k l m }

-- one step
unfoldable pub step : List Point → Taken
step ps =
    let k : Point = pick_k ps in
    let l : Point = pick_l k ps in
    take_rect k l (pick_m k l ps) ps

-- the rectangles of so many steps, while points remain
unfoldable pub run : (next : List Point → Taken) → ℕ → List Point → List Rect
run next zero ps = []
run next (suc n) [] = []
run next (suc n) (p ∷ ps) = (next (p ∷ ps)).rect ∷ run next n (next (p ∷ ps)).left

-- the points left after so many steps
unfoldable pub left_after : (next : List Point → Taken) → ℕ → List Point → List Point
left_after next zero ps = ps
left_after next (suc n) [] = []
left_after next (suc n) (p ∷ ps) = left_after next n (next (p ∷ ps)).left

-- more steps than n points can take
abbrev pub enough : List Point → ℕ
enough ps = length ps * length ps

-- the list: the rectangles of the steps until no points remain
unfoldable pub rule_list : List Point → List Rect
rule_list ps = run step (enough ps) ps

-- ---- How many rows

-- the rows of points
abbrev pub rows_of : List Point → List ℤ
rows_of ps = map (λ p. p.y) ps

-- the number of different rows
unfoldable pub row_count : List Point → ℕ
row_count ps = length (different (rows_of ps))
