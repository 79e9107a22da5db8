-- Where a picture shows what: the points' frame, how it is scaled, and the place of each thing. Units are a hundredth of a pixel.
use Rattle.std.specs.Prelude.{ℕ, ◌+◌, ◌-◌, ◌*◌, ◌/◌, ◌<◌, ◌≤◌, min, max, List, [], ◌∷◌, ℤ, pos, negsuc}
use Rattle.std.proofs.Common.{arith}
use native.Mathlib.Nat.{min-le_right, div-le_of_le-mul}
use Rattle.plane.specs.declared.Point.{Point}
use Rattle.plane.specs.declared.Rect.{Rect}
use Rattle.plane.specs.Keys.{raised}
use Rattle.drawing.specs.declared.plan.Frame.{Frame}
use Rattle.drawing.specs.declared.plan.View.{View}
use Rattle.drawing.specs.declared.plan.Box.{Box}

-- ---- Numbers

-- a side's length; 0 for one below 0
abbrev pub extent : ℤ → ℕ
extent (pos n) = n
extent (negsuc n) = 0

-- ---- The frame

-- the frame of one point
unfoldable pub about : Point → Frame
about p = record { left = raised p.x; right = raised p.x; bottom = raised p.y; top = raised p.y }

-- a frame that holds one point more
unfoldable pub widened : Frame → Point → Frame
widened f p = record { left = min f.left (raised p.x); right = max f.right (raised p.x); bottom = min f.bottom (raised p.y); top = max f.top (raised p.y) }

-- a frame that holds more points
unfoldable pub widened_by : Frame → List Point → Frame
widened_by f [] = f
widened_by f (p ∷ ps) = widened_by (widened f p) ps

-- the frame of some points
unfoldable pub frame_of : List Point → Frame
frame_of [] = record { left = 0; right = 0; bottom = 0; top = 0 }
frame_of (p ∷ ps) = widened_by (about p) ps

-- ---- The scale

-- the longer side of a frame, at least 1
unfoldable pub span_of : Frame → ℕ
span_of f = max 1 (max (f.right - f.left) (f.top - f.bottom))

-- there is such a side
pub some-span : (f : Frame) → 0 < span_of f
unfolding span_of
some-span f = omega arith

-- how far v is from low, where a span has 100,000 units; what is outside is put to the end
unfoldable pub scaled : (span low v : ℕ) → ℕ
scaled span low v = min (v - low) span * 100_000 / span

-- what is scaled is at most 100,000
pub scaled-most : (span low v : ℕ) → scaled span low v ≤ 100_000
unfolding scaled
scaled-most span low v = div-le_of_le-mul span (omega (arith, min-le_right (v - low) span))

-- a frame as it is shown: the longer side fills the picture
unfoldable pub view_of : Frame → View
view_of f =
    record {
      left = f.left;
      bottom = f.bottom;
      span = span_of f;
      width = scaled (span_of f) f.left f.right;
      height = scaled (span_of f) f.bottom f.top;
      some_span = some-span f;
      narrow = scaled-most (span_of f) f.left f.right;
      low = scaled-most (span_of f) f.bottom f.top;
    }

-- a raised x, from the picture's left
unfoldable pub across : View → ℕ → ℕ
across v x = scaled v.span v.left x

-- a raised y, from the picture's top: y grows upwards
unfoldable pub down : View → ℕ → ℕ
down v y = v.height - scaled v.span v.bottom y

-- half of what is free beside a picture that is less than 100,000 wide
unfoldable pub free_beside : View → ℕ
free_beside v = (100_000 - v.width) / 2

-- ---- Rectangles and points

-- a rectangle in the picture; each side is at least 1
unfoldable pub box_of : View → Rect → Box
box_of v r =
    record { x = across v (raised r.x); y = down v (raised r.y + extent r.h); w = max 1 (across v (raised r.x + extent r.w) - across v (raised r.x)); h = max 1 (down v (raised r.y) - down v (raised r.y + extent r.h)) }

-- the size of a number's letters: four digits fit the rectangle's width, and they are not higher than it
unfoldable pub number_size : Box → ℕ
number_size b = min (b.w * 2 / 5) (min (b.h * 3 / 4) 4000)

-- a point's radius: the more points, the smaller
unfoldable pub dot_radius : (count : ℕ) → ℕ
dot_radius count = 30_000 / (100 + count / 16)
