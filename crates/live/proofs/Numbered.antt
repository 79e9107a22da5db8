-- The rule's list by number: the rectangle of each step, and the points that so many steps leave.
use Prim.Native.Nat.{ℕ, zero, suc, ◌+◌, ◌<◌, ◌≤◌}
use native.Mathlib.Omega.{arith}
use native.Mathlib.Nat.{add-zero}
use native.Mathlib.Numerals.{add-one}
use mathlib.Core.Path.{◌≡◌, refl, sym, ap, ◌∙◌}
use mathlib.Core.Bool.{true, false}
use mathlib.Core.List.{List, [], ◌∷◌, Memᴰ as In}
use lib.ListN.{length, get_or, drop, length-drop}
use lib.Seq.{get_or-drop}
use lib.IntN.{ℤ}
use Rattle.plane.specs.declared.Point.{Point}
use Rattle.plane.specs.declared.Rect.{Rect}
use Rattle.plane.specs.Lists.{any}
use Rattle.plane.specs.Words.{flat, rect_in_range, on_row, right, top}
use Rattle.plane.proofs.Order.{far-side, eq_z-is, eq_z-refl}
use Rattle.plane.proofs.Sums.{any-find, any-in}
use Rattle.rule.specs.Rule.{pick_k, pick_l, pick_m, rect_of, toggle_four, take_rect, step, left_after, rule_list, Picked}
use Rattle.rule.specs.Rows.{Accepted}
use Rattle.rule.proofs.Picks.{picks-some}
use Rattle.rule.proofs.Steps.{step-all, step-solid, step-in-range, step-keeps-accepted, Steps, stay, more, steps, steps-accepted}
use Rattle.rule.proofs.Bound.{rule-none, rule-next}
use Rattle.live.specs.Stands.{after_steps, rect_no}

-- ---- Step after step

-- one step more is a step of the points that are left
after_next : (i : ℕ) (ps : List Point) → 0 < length (after_steps ps i) → after_steps ps (suc i) ≡ (step (after_steps ps i)).left
unfolding left_after
after_next zero [] h = absurd (omega arith)
after_next zero (p ∷ qs) h = refl
after_next (suc i) [] h = absurd (omega arith)
after_next (suc i) (p ∷ qs) h = after_next i (step (p ∷ qs)).left h

-- the list of points, one or more: the rectangle of their step, then the list of what it leaves
rule-some : (ps : List Point) → 0 < length ps → Accepted ps → rule_list ps ≡ (step ps).rect ∷ rule_list (step ps).left
rule-some [] h acc = absurd (omega arith)
rule-some (p ∷ qs) h acc = rule-next p qs acc

-- without its first rectangles, the list is that of the points that their steps leave
rule-after : (i : ℕ) (ps : List Point) → Accepted ps → drop i (rule_list ps) ≡ rule_list (after_steps ps i)
unfolding left_after
rule-after zero ps acc = refl
rule-after (suc i) [] acc = ap (drop (suc i)) rule-none ∙ sym rule-none
rule-after (suc i) (p ∷ qs) acc = ap (drop (suc i)) (rule-next p qs acc) ∙ rule-after i (step (p ∷ qs)).left (step-keeps-accepted p qs acc)

-- the points that steps leave are accepted
pub after-accepted : (ps : List Point) → Accepted ps → (i : ℕ) → Accepted (after_steps ps i)
after-accepted ps acc i = steps-accepted (steps i ps acc) acc

-- ---- How far the list goes

-- where none are left, the list has no rectangle more
no_more : (ps : List Point) → Accepted ps → (i : ℕ) → after_steps ps i ≡ [] → length (rule_list ps) ≤ i
no_more ps acc i e = omega (arith, length-drop i (rule_list ps), ap length (rule-after i ps acc ∙ ap rule_list e ∙ rule-none))

-- a number below the list's length has points left
some_left : (ps : List Point) → Accepted ps → (i : ℕ) → i < length (rule_list ps) → 0 < length (after_steps ps i)
some_left ps acc i h = go (after_steps ps i) refl
  where
    go : (qs : List Point) → after_steps ps i ≡ qs → 0 < length qs
    go [] e = let n = no_more ps acc i e in absurd (omega arith)
    go (q ∷ qs) e = omega arith

-- where points are left, the list goes on
pub goes_on : (ps : List Point) → Accepted ps → (i : ℕ) → 0 < length (after_steps ps i) → i < length (rule_list ps)
goes_on ps acc i h = omega (arith, length-drop i (rule_list ps), ap length (rule-after i ps acc ∙ rule-some (after_steps ps i) h (after-accepted ps acc i)))

-- where none are left, and not more steps were made than the list has rectangles, all were made
pub all_made : (ps : List Point) → Accepted ps → (i : ℕ) → i ≤ length (rule_list ps) → after_steps ps i ≡ [] → i ≡ length (rule_list ps)
all_made ps acc i h e = let n = no_more ps acc i e in omega arith

-- ---- The step with a number

-- the step with a number: K, L and M of the points before it, its rectangle, and the points that it leaves
pub record StepNo (ps : List Point) (i : ℕ) : Type 0 where
  pub k : Point
  pub l : Point
  pub m : ℤ
  pub accepted : Accepted (after_steps ps i)
  pub picked : Picked (after_steps ps i) k l m
  pub rect-is : rect_no ps i ≡ rect_of k l m
  pub next-is : after_steps ps (i + 1) ≡ toggle_four (after_steps ps i) k l m

-- a number below the list's length has its step
pub step-no : (ps : List Point) → Accepted ps → (i : ℕ) → i < length (rule_list ps) → StepNo ps i
unfolding rect_no step take_rect
step-no ps acc i h =
    let left : List Point = after_steps ps i in
    let few = some_left ps acc i h in
    let kept = after-accepted ps acc i in
    record {
      k = pick_k left;
      l = pick_l (pick_k left) left;
      m = pick_m (pick_k left) (pick_l (pick_k left) left) left;
      accepted = kept;
      picked = picks-some left few kept;
      rect-is = refl;
      next-is = rw add-one (after_next i ps few);
    }

-- its rectangle begins at K, and ends at L and at M
pub sides-no : {ps : List Point} {i : ℕ} (s : StepNo ps i) → ((rect_no ps i).x ≡ s.k.x) × ((rect_no ps i).y ≡ s.k.y) × (right (rect_no ps i) ≡ s.l.x) × (top (rect_no ps i) ≡ s.m)
unfolding rect_of
sides-no s = rw s.rect-is (refl, refl, far-side s.k.x s.l.x, far-side s.k.y s.m)

-- the list has at its place the rectangle with that number
pub list_at : (ps : List Point) → Accepted ps → (i : ℕ) (d : Rect) → i < length (rule_list ps) → get_or (rule_list ps) i d ≡ rect_no ps i
unfolding rect_no
list_at ps acc i d h =
    let first : get_or (drop i (rule_list ps)) 0 d ≡ get_or (rule_list ps) i d = get_or-drop i (rule_list ps) 0 d ∙ rw add-zero in
    sym first ∙ ap (λ (rs : List Rect). get_or rs 0 d) (rule-after i ps acc ∙ rule-some (after_steps ps i) (some_left ps acc i h) (after-accepted ps acc i))

-- it is one that backward accepts
pub rect-no-solid : (ps : List Point) → Accepted ps → (i : ℕ) → i < length (rule_list ps) → (flat (rect_no ps i) ≡ false) × (rect_in_range (rect_no ps i) ≡ true)
rect-no-solid ps acc i h =
    let s = step-no ps acc i h in
    rw s.rect-is (step-solid s.picked, step-in-range s.picked s.accepted)

-- steps leave points on rows of a list that has the row of every point
steps-rows : {ps qs : List Point} {rs : List Rect} → Steps ps rs qs → (R : List Point) → ((q : Point) → In q ps → any (on_row q.y) R ≡ true) → (q : Point) → In q qs → any (on_row q.y) R ≡ true
steps-rows stay R h = h
steps-rows (more k l m acc c s) R h =
    let on-top : any (on_row m) R ≡ true = rw c.row-m at (h c.on-m c.first-m.within) in
    steps-rows s R (step-all c (λ q. any (on_row q.y) R) h on-top on-top)

-- its upper side is on a row of the points
pub top-on-row : (ps : List Point) → Accepted ps → (i : ℕ) → i < length (rule_list ps) → (q : Point) × In q ps × (q.y ≡ top (rect_no ps i))
unfolding on_row
top-on-row ps acc i h =
    let s = step-no ps acc i h in
    let c = s.picked in
    let r = any-find (on_row c.on-m.y) ps (steps-rows (steps i ps acc) ps (λ q n. any-in (on_row q.y) n (eq_z-refl q.y)) c.on-m c.first-m.within) in
    (r.0, r.1, eq_z-is _ _ r.2 ∙ c.row-m ∙ sym (sides-no s).3)
