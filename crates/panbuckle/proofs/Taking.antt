-- A step of points that a working array holds: what it is ready for; and, begun, its K, L and M, how many points each toggle leaves,
-- and what it gives.
use Prim.Native.Nat.{ℕ, ◌*◌, ◌≤◌, ◌<◌}
use native.Mathlib.Omega.{arith}
use mathlib.Core.Path.{◌≡◌, sym}
use mathlib.Core.List.{List}
use lib.ListN.{length}
use lib.IntN.{ℤ, ◌-ℤ◌}
use mir.Syntax.{w32}
use mir.Val.{SFits}
use Rattle.plane.specs.declared.Point.{Point}
use Rattle.plane.specs.Words.{most_points}
use Rattle.rule.specs.Rule.{pick_k, pick_l, pick_m, rect_of, toggle, toggle_four, take_rect, step, Picked}
use Rattle.rule.specs.Working.{work_of}
use Rattle.rule.specs.StepCall.{StepAccepted, StepDone, Rectangle}
use Rattle.rule.specs.Rows.{Accepted}
use Rattle.rule.proofs.Picks.{picks-some}
use Rattle.rule.proofs.Steps.{step-lengths, step-sides}
use Rattle.rule.proofs.StepCall.{taken_step}
use Rattle.panbuckle.specs.Inner.{held, Begun}
use Rattle.panbuckle.proofs.Scan.{held-length}

-- a working array that holds n accepted points
pub record Holds (work : List ℤ) (n : ℕ) : Type 0 where
  pub few : n ≤ most_points
  pub working : 2 * n ≤ length work
  pub points : Accepted (held n work)

-- one accepted point or more is what a step accepts
pub holds-ready : {work : List ℤ} {n : ℕ} → Holds work n → 0 < n → StepAccepted work n
holds-ready h more = record { few = h.few; working = h.working; some_left = more; points = h.points }

-- of those, k and l begin the step
pub begun : {work : List ℤ} {n : ℕ} {k l : Point} → StepAccepted work n → k ≡ pick_k (held n work) → l ≡ pick_l k (held n work) → Begun (held n work) k l
begun {work} {n} r d e = record { accepted = r.points; some_left = omega (arith, held-length n work r.working, r.some_left); is-k = d; is-l = e }

module _ {ps : List Point} {k l : Point} (b : Begun ps k l) where
  -- k, l and M are the step's K, L and M
  pub begun-picked : Picked ps k l (pick_m k l ps)
  begun-picked = rw (b.is-l, b.is-k) (picks-some ps b.some_left b.accepted)

  -- after none of the toggles of K, L and two more points are the points more than before
  pub begun-lengths : (p q : Point) → let n = length ps in (length (toggle ps k) ≤ n) × (length (toggle (toggle ps k) l) ≤ n) × (length (toggle (toggle (toggle ps k) l) p) ≤ n) × (length (toggle (toggle (toggle (toggle ps k) l) p) q) ≤ n)
  begun-lengths p q = step-lengths begun-picked p q

  -- W and H fit 32 bits
  pub begun-fits : SFits w32 (l.x -ℤ k.x) × SFits w32 (pick_m k l ps -ℤ k.y)
  begun-fits = let s = step-sides begun-picked b.accepted in (record { sfits = omega arith }, record { sfits = omega arith })

-- the rectangle between K, L and M with the points that the four toggles leave is the step
pub begun-done : {work : List ℤ} {n : ℕ} {k l : Point} → StepAccepted work n → Begun (held n work) k l → let m = pick_m k l (held n work) in let left = toggle_four (held n work) k l m in StepDone work n (Rectangle (rect_of k l m) (length left)) (work_of n left work)
unfolding step take_rect
begun-done {work} {n} r b =
    let t = taken_step work n r in
    record { answer = rw (b.is-l, b.is-k) (sym t.0); working = rw (b.is-l, b.is-k) (sym t.1) }
