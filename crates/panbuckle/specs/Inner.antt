-- What the private functions speak of. No caller needs these definitions: the promises are in the crate `rule`.
use Rattle.std.specs.Prelude.{ℕ, ◌+◌, ◌*◌, ◌<◌, ◌≤◌, ◌≡◌, Bool, true, false, cond, ◌&&◌, length, take, set, ℤ, ltb}
use mathlib.Core.List.{List, Memᴰ as In}
use Rattle.std.specs.Int.Signed.{le_z, lt_z}
use Rattle.plane.specs.declared.Point.{Point}
use Rattle.plane.specs.Lists.{count, odd}
use Rattle.plane.specs.Words.{same, points_of}
use Rattle.rule.specs.Rule.{pick_k, pick_l, toggle}
use Rattle.rule.specs.Rows.{Accepted}

-- ---- Arrays

-- the points in the first n places
abbrev pub held : ℕ → List ℤ → List Point
held n a = take n (points_of a)

-- an array with a point put at place i
abbrev pub put : List ℤ → ℕ → Point → List ℤ
put a i p = set (set a (2 * i) p.x) (2 * i + 1) p.y

-- the greater of two numbers
abbrev pub most : ℕ → ℕ → ℕ
most m n = cond (ltb m n) n m

-- ---- K, L and the width

-- the point in p's column on q's row
abbrev pub cross : Point → Point → Point
cross p q = record { x = p.x; y = q.y }

-- above k, from k's column to before l's
unfoldable pub over_width : (k l : Point) → Point → Bool
over_width k l p = lt_z k.y p.y && (le_z k.x p.x && lt_z p.x l.x)

-- k and l are K and L of points that are accepted, one or more
pub record Begun (ps : List Point) (k l : Point) : Type 0 where
  pub accepted : Accepted ps
  pub some_left : 0 < length ps
  pub is-k : k ≡ pick_k ps
  pub is-l : l ≡ pick_l k ps

-- ---- The stop row

-- what a table has: rows, each by a point, below an end
pub record Rows : Type 0 where
  pub end : Point
  pub rows : List Point

-- left of k, from low's row to below end's
unfoldable pub beside : (k low end : Point) → Point → Bool
beside k low end p = lt_z p.x k.x && (le_z low.y p.y && lt_z p.y end.y)

-- r is one of the points, and no point's row is above its own
pub record IsHighest (ps : List Point) (r : Point) : Type 0 where
  pub within : In r ps
  pub none_above : (q : Point) → In q ps → lt_z r.y q.y ≡ false

-- rows below an end, with p's toggled: all of them; or, of two or more, all but the highest, which is their end then
pub data Toggled (p end : Point) (rows : List Point) : (end_after : Point) (rows-after : List Point) → Type 0 where
  whole : Toggled p end rows end (toggle rows p)
  given-up : {h : Point} → 2 ≤ length (toggle rows p) → IsHighest (toggle rows p) h → Toggled p end rows h (toggle (toggle rows p) h)

-- points of k's column, each once, on the rows with an odd number of points of ps beside k
pub record OddBeside (k low end : Point) (ps rows : List Point) : Type 0 where
  pub once : (q : Point) → count (same q) rows ≤ 1
  pub parity : (f : Point → Bool) → odd f rows ≡ odd (λ p. beside k low end p && f (cross k p)) ps

-- the end is above low, and not above m
pub record Between (low m end : Point) : Type 0 where
  pub above : lt_z low.y end.y ≡ true
  pub not-above : le_z end.y m.y ≡ true
