-- Request 2: points in range with even rows and columns, once they have cancelled, are points that the rule takes; so demands 2 and 3 and the round
-- trip hold of those that remain, and demand 3 of the points as given too.
use mathlib.Core.Path.{◌≡◌, ap, ◌∙◌}
use mathlib.Core.Logic.{◌↔◌}
use mathlib.Core.List.{List}
use lib.IntN.{ℤ}
use Rattle.plane.specs.declared.Point.{Point}
use Rattle.plane.specs.Lists.{bit, count}
use Rattle.plane.specs.Words.{marks, holds}
use Rattle.plane.specs.Remaining.{Balanced, remaining}
use Rattle.plane.proofs.Remaining.{remaining-once, remaining-same, remaining-marks, remaining-balanced}
use Rattle.rule.specs.Rule.{rule_list}
use Rattle.rule.specs.Rows.{Accepted}
use Rattle.rule.proofs.Cover.{rule-covers}
use Rattle.rule.proofs.Canon.{rule-canon}

-- accepted points are so
pub accepted-balanced : {ps : List Point} → Accepted ps → Balanced ps
accepted-balanced acc = record { range = acc.range; rows = acc.rows; columns = acc.columns }

-- and all remain
pub accepted-remain : {ps : List Point} → Accepted ps → remaining ps ≡ ps
accepted-remain {ps} acc = remaining-same ps acc.once

-- those that remain of others are accepted
pub remaining-accepted : (ps : List Point) → Balanced ps → Accepted (remaining ps)
remaining-accepted ps h = let b = remaining-balanced ps h in record { range = b.range; once = remaining-once ps; rows = b.rows; columns = b.columns }

-- each unit cell lies in one rectangle of their list if the points as given mark it, in none otherwise
pub remaining-covers : (ps : List Point) → Balanced ps → (a b : ℤ) → count (holds a b) (rule_list (remaining ps)) ≡ bit (marks ps a b)
remaining-covers ps h a b = rule-covers (remaining ps) (remaining-accepted ps h) a b ∙ ap (λ m. bit (m a b)) (remaining-marks ps)

-- two arrays have equal lists exactly when they mark the same cells, in any order and with any repetition of points
pub remaining-canon : (ps qs : List Point) → Balanced ps → Balanced qs → (rule_list (remaining ps) ≡ rule_list (remaining qs)) ↔ ((a b : ℤ) → marks ps a b ≡ marks qs a b)
remaining-canon ps qs h g = rw (remaining-marks ps, remaining-marks qs) at (rule-canon (remaining ps) (remaining qs) (remaining-accepted ps h) (remaining-accepted qs g))
