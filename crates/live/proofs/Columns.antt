-- Left of a column of a row.
use mathlib.Core.Path.{◌≡◌}
use mathlib.Core.Bool.{true, false}
use mathlib.Core.List.{List, Memᴰ as In}
use lib.IntN.{ℤ}
use lib.Signed.{le_z, lt_z}
use Rattle.plane.specs.declared.Point.{Point}
use Rattle.plane.specs.Lists.{odd}
use Rattle.plane.specs.Words.{eq_z, on_row}
use Rattle.plane.proofs.Order.{order, eq_z-is}
use Rattle.plane.proofs.Bools.{by-no, and_parts, and-make}
use Rattle.plane.proofs.Parity.{odd-none}
use Rattle.rule.specs.Rule.{left_of}

module _ (b y : ℤ) where
  -- a point of the row that is left of the column
  pub is-left : (q : Point) → q.y ≡ y → lt_z q.x b ≡ true → left_of b y q ≡ true
  unfolding left_of on_row
  is-left q e h = and-make (eq_z q.y y) (lt_z q.x b) (omega order) h

  -- a point that, if it is of the row, is at or right of the column
  not_left : (q : Point) → (q.y ≡ y → le_z b q.x ≡ true) → left_of b y q ≡ false
  unfolding left_of on_row
  not_left q f = by-no (left_of b y q) (λ e.
      let h = and_parts (eq_z q.y y) (lt_z q.x b) e in
      let g = f (eq_z-is q.y y h.0) in
      omega order)

  -- a point of another row
  pub off-row : (q : Point) → eq_z q.y y ≡ false → left_of b y q ≡ false
  off-row q e = not_left q (λ d. absurd (omega order))

  -- where the points of the row are all at or right of the column, none is left of it
  pub none_left : (qs : List Point) → ((q : Point) → In q qs → q.y ≡ y → le_z b q.x ≡ true) → odd (left_of b y) qs ≡ false
  none_left qs f = odd-none (left_of b y) qs (λ q m. not_left q (f q m))
