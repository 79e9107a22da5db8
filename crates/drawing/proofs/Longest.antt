-- The largest picture fits: of at most 3,200 rectangles and 4,096 points, with what is said of them.
use Prim.Native.Nat.{ℕ, ◌≤◌}
use native.Mathlib.Omega.{arith}
use mathlib.Core.Path.{◌≡◌, refl}
use mathlib.Core.List.{List}
use lib.ListN.{length, length-append}
use Rattle.plane.specs.declared.Point.{Point}
use Rattle.plane.specs.declared.Rect.{Rect}
use Rattle.plane.specs.Words.{flat_points, most_points}
use Rattle.entry.specs.Checks.{Verdict, accepted, refused, verdict}
use Rattle.rule.specs.declared.Sums.{Sums}
use Rattle.reading.specs.Reading.{points_read, text_checks}
use Rattle.reading.proofs.Kept.{lines-are-points, lines-few}
use Rattle.text.specs.declared.Report.{Report}
use Rattle.text.specs.Program.{program_report, most_listed}
use Rattle.text.proofs.Lengths.{ReportFits}
use Rattle.text.proofs.Reports.{report-fits}
use Rattle.drawing.specs.Plan.{frame_of, view_of}
use Rattle.drawing.specs.Picture.{svg_of, shown, points_shown, list_shown, sums_shown, picture_of}
use Rattle.drawing.proofs.Parts.{list-part-length, point-part-length, mark-part-length, say-part-length}
use Rattle.drawing.proofs.Shown.{SumsSmall, list-few, sums-small}

-- ---- A picture of parts that fit

svg-length : (ps : List Point) (rs : List Rect) (s : Sums) (r : Report) → length ps ≤ most_points → length rs ≤ most_listed → SumsSmall s → ReportFits r → length (svg_of ps rs s r) ≤ 800_000
unfolding svg_of
svg-length ps rs s r m n small f =
    let v = view_of (frame_of ps) in
    simp length-append (omega (arith, list-part-length v rs n, point-part-length v ps, mark-part-length v ps r, say-part-length v s r small.count small.area small.edge f))

-- ---- The points that are shown

-- those shown are not too many
points-few : (t : List ℕ) → length (points_shown t) ≤ most_points
unfolding points_shown
points-few t = go (verdict (text_checks t)) refl
  where
    go : (v : Verdict) → verdict (text_checks t) ≡ v → length (shown v (points_read t)) ≤ most_points
    go accepted e = omega (arith, lines-are-points t e, lines-few t e)
    go (refused k p) e = omega arith

-- ---- Whatever is drawn

pub picture-fits : (t : List ℕ) → length (picture_of t) ≤ 800_000
unfolding picture_of
picture-fits t =
    let a = flat_points (points_shown t) in
    svg-length (points_shown t) (list_shown a) (sums_shown a) (program_report t) (points-few t) (list-few a) (sums-small a) (report-fits t)
