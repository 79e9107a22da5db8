-- A working array of points.
use Rattle.std.specs.Prelude.{ℕ, ◌-◌, ◌*◌, List, ◌++◌, length, replicate, ℤ, pos}
use Rattle.plane.specs.declared.Point.{Point}
use Rattle.plane.specs.Lists.{at_start}
use Rattle.plane.specs.Words.{flat_points}

-- points where n were given: the numbers of those, and zeros up to twice n
unfoldable pub padded : (n : ℕ) → List Point → List ℤ
padded n ps = flat_points ps ++ replicate (2 * (n - length ps)) (pos 0)

-- a working array given with n points that now holds ps: they and the zeros at its start, and past them unchanged
unfoldable pub work_of : (n : ℕ) (ps : List Point) (work : List ℤ) → List ℤ
work_of n ps work = at_start (padded n ps) work
