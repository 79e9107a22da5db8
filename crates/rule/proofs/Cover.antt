-- Demand 3, first half: for an accepted array, each cell is in exactly one rectangle of the list if it is marked, in none otherwise.
use mathlib.Core.Path.{◌≡◌, refl, ap, ◌∙◌}
use Prim.Native.Nat.{ℕ, suc, ◌+◌}
use native.Mathlib.Omega.{arith}
use mathlib.Core.Bool.{Bool, true, false, cond, xor, false≢true}
use mathlib.Core.List.{List, []}
use lib.IntN.{ℤ}
use Rattle.plane.specs.declared.Point.{Point}
use Rattle.plane.specs.declared.Rect.{Rect}
use Rattle.plane.specs.Lists.{bit, count, odd}
use Rattle.plane.specs.Words.{marks, holds}
use Rattle.rule.specs.Rule.{rect_of, rule_list}
use Rattle.rule.specs.Rows.{Accepted}
use Rattle.rule.proofs.Inside.{marks-four, inside}
use Rattle.rule.proofs.Steps.{Steps, stay, more}
use Rattle.rule.proofs.Bound.{rule-steps}

-- no points mark no cell
marks-none : (a b : ℤ) → marks [] a b ≡ false
unfolding marks odd
marks-none a b = refl

-- every cell that a step's rectangle holds was marked, and is marked no more
steps-cover : {ps qs : List Point} {rs : List Rect} → Steps ps rs qs → (a b : ℤ) → count (holds a b) rs + bit (marks qs a b) ≡ bit (marks ps a b)
unfolding count xor
steps-cover stay a b = omega arith
steps-cover {ps} (more k l m acc c s) a b = go _ _ (holds a b (rect_of k l m)) (marks ps a b) (inside acc c a b) (steps-cover s a b ∙ ap bit (marks-four c a b))
  where
    go : (n r : ℕ) (h t : Bool) → (h ≡ true → t ≡ true) → n + r ≡ bit (xor h t) → cond h (suc n) n + r ≡ bit t
    go n r true true i e = omega arith
    go n r true false i e = absurd (false≢true (i refl))
    go n r false true i e = omega arith
    go n r false false i e = omega arith

-- each unit cell lies in one rectangle of the list if the points mark it, in none otherwise
pub rule-covers : (ps : List Point) → Accepted ps → (a b : ℤ) → count (holds a b) (rule_list ps) ≡ bit (marks ps a b)
rule-covers ps acc a b = let none : bit (marks [] a b) ≡ 0 = ap bit (marks-none a b) in omega (arith, steps-cover (rule-steps ps acc) a b)
