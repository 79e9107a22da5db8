-- The backward rule of document 01: every point that is a corner of an odd number of rectangles, once each, in order.
use Rattle.std.specs.Prelude.{Bool, List, [], ◌∷◌, ◌++◌}
use Rattle.plane.specs.declared.Point.{Point}
use Rattle.plane.specs.declared.Rect.{Rect}
use Rattle.plane.specs.Lists.{any, odd, only}
use Rattle.plane.specs.Words.{same, corners_of, in_order}

-- p is a corner of the rectangle
unfoldable pub is_corner : Point → Rect → Bool
is_corner p r = any (same p) (corners_of r)

-- all corners of the rectangles
unfoldable pub corners : List Rect → List Point
corners [] = []
corners (r ∷ rs) = corners_of r ++ corners rs

-- p is a corner of an odd number of the rectangles
unfoldable pub odd_corner : List Rect → Point → Bool
odd_corner rs p = odd (is_corner p) rs

-- every such point, once each, in order of y, then x
unfoldable pub back_list : List Rect → List Point
back_list rs = in_order (only (odd_corner rs) (corners rs))
