-- Both directions: forward and then backward gives the points in order, and two rectangle lists have equal forward lists exactly when
-- the same cells lie in an odd number of rectangles of each.
use mathlib.Core.Path.{◌≡◌, sym, ◌∙◌}
use mathlib.Core.Logic.{◌↔◌}
use mathlib.Core.Bool.{Bool, false, xor}
use mathlib.Core.List.{List, [], ◌∷◌}
use lib.IntN.{ℤ}
use Rattle.plane.specs.declared.Point.{Point}
use Rattle.plane.specs.declared.Rect.{Rect}
use Rattle.plane.specs.Lists.{odd}
use Rattle.plane.specs.Words.{same, holds, corners_of, in_order}
use Rattle.plane.proofs.Order.{far-side}
use Rattle.plane.proofs.Bools.{xor_assoc, xor-back, xor-false, false-xor}
use Rattle.plane.proofs.Parity.{odd-none-of, odd-append, once-odd}
use Rattle.plane.proofs.Alike.{Alike}
use Rattle.plane.proofs.Rising.{in_order-rising, in_order-has}
use Rattle.rule.specs.Rule.{rect_of, rule_list, Picked}
use Rattle.rule.specs.Back.{corners, back_list}
use Rattle.rule.specs.Rows.{Accepted, AcceptedRects}
use Rattle.rule.proofs.Toggle.{odd-four}
use Rattle.rule.proofs.Picks.{level}
use Rattle.rule.proofs.Steps.{Steps, stay, more}
use Rattle.rule.proofs.Bound.{rule-steps}
use Rattle.rule.proofs.Rising.{rule-rects}
use Rattle.rule.proofs.Canon.{rule-canon}
use Rattle.rule.proofs.Backward.{back-only, back-accepted, back-marks, corners-parity, odd-corners_of}

-- ---- Each step flips just its rectangle's corners

odd-corners-none : (f : Point → Bool) → odd f (corners []) ≡ false
unfolding corners
odd-corners-none f = odd-none-of f

odd-corners-more : (f : Point → Bool) (r : Rect) (rs : List Rect) → odd f (corners (r ∷ rs)) ≡ xor (odd f (corners_of r)) (odd f (corners rs))
unfolding corners
odd-corners-more f r rs = odd-append f (corners_of r) (corners rs)

-- the corners of a step's rectangle are K, L, (xK, M) and (xL, M)
odd-rect : (f : Point → Bool) {ps : List Point} {k l : Point} {m : ℤ} → Picked ps k l m → odd f (corners_of (rect_of k l m)) ≡ xor (f k) (xor (f l) (xor (f (record { x = k.x; y = m })) (f (record { x = l.x; y = m }))))
unfolding rect_of
odd-rect f {k = k} {l} {m} c = odd-corners_of f (rect_of k l m) ∙ rw (far-side k.x l.x, far-side k.y m, ← level c)

-- so the points are the corners of the rectangles made, and the points left
steps-corners : {ps qs : List Point} {rs : List Rect} → Steps ps rs qs → (f : Point → Bool) → odd f ps ≡ xor (odd f (corners rs)) (odd f qs)
steps-corners {ps} stay f = sym (rw (odd-corners-none f) (false-xor (odd f ps)))
steps-corners {ps} {qs} (more {rs = rs} k l m acc c s) f =
    rw (odd-corners-more f (rect_of k l m) rs, odd-rect f c)
    (undo (f k) (f l) (f (record { x = k.x; y = m })) (f (record { x = l.x; y = m })) (odd f (corners rs)) (odd f ps) (odd f qs) (sym (odd-four f ps k l m) ∙ steps-corners s f))
  where
    undo : (a b c d r p q : Bool) → xor d (xor c (xor b (xor a p))) ≡ xor r q → p ≡ xor (xor (xor a (xor b (xor c d))) r) q
    undo a b c d r p q e = simp xor_assoc (rw (← e) (simp xor-back))

-- a point is in the array exactly when it is a corner of an odd number of the list's rectangles
pub rule-corners : (ps : List Point) → Accepted ps → Alike ps (corners (rule_list ps))
rule-corners ps acc = record { parity = λ f. steps-corners (rule-steps ps acc) f ∙ rw (odd-none-of f) (xor-false _) }

-- ---- Forward and then backward

-- the input's points, in order of y, then x
pub forward-backward : (ps : List Point) → Accepted ps → back_list (rule_list ps) ≡ in_order ps
forward-backward ps acc = sym (back-only (rule_list ps) (in_order ps) (in_order-rising ps) (λ p. in_order-has (same p) ps ∙ sym (once-odd (same p) ps (acc.once p)) ∙ (rule-corners ps acc).parity (same p) ∙ corners-parity (rule_list ps) (rule-rects ps acc).solid p))

-- ---- Two rectangle lists

pub backward-forward : (rs ss : List Rect) → AcceptedRects rs → AcceptedRects ss → (rule_list (back_list rs) ≡ rule_list (back_list ss)) ↔ ((a b : ℤ) → odd (holds a b) rs ≡ odd (holds a b) ss)
backward-forward rs ss acc bcc =
    let c = rule-canon (back_list rs) (back_list ss) (back-accepted rs acc) (back-accepted ss bcc) in
    (λ e a b. sym (back-marks rs acc a b) ∙ c.0 e a b ∙ back-marks ss bcc a b, λ h. c.1 (λ a b. back-marks rs acc a b ∙ h a b ∙ sym (back-marks ss bcc a b)))
