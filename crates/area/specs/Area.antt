-- What `count_marked` says of points.
use Rattle.std.specs.Prelude.{List}
use Rattle.plane.specs.declared.Point.{Point}
use Rattle.plane.specs.Words.{marks, cells}
use Rattle.entry.specs.Checks.{verdict}
use Rattle.entry.specs.Entry.{counted, Counted}
use Rattle.rule.specs.Rows.{balance_checks, few_then}

-- how many cells the points mark, or what forward's checks refuse of them
abbrev pub area_says : List Point → Counted
area_says ps = counted (verdict (few_then balance_checks ps)) (cells (marks ps))
