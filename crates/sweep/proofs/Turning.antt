-- Live rectangles that are passed, moved one by one before those ahead.
use Prim.Native.Nat.{ℕ, suc, ◌+◌, ◌-◌, ◌*◌, ◌<◌, ◌≤◌}
use native.Mathlib.Omega.{arith}
use mathlib.Core.Path.{◌≡◌, refl, sym, ap, subst, ◌∙◌}
use mathlib.Core.Logic.{◌⊎◌}
use mathlib.Core.Bool.{true}
use mathlib.Core.List.{List, ◌∷◌, ◌++◌}
use lib.ListN.{length, get_or, take, drop, set}
use lib.Seq.{take-take, get_or-take, take-set-le, drop-cons}
use lib.IntN.{ℤ}
use lib.Signed.{le_z}
use Rattle.plane.specs.declared.Point.{Point}
use Rattle.plane.proofs.Places.{set_first}
use Rattle.live.specs.declared.Live.{Live}
use Rattle.sweep.specs.declared.Sweep.{Sweep}
use Rattle.sweep.specs.Inner.{live_size, lives_of, zero_live, live_at, put_live, KeptPast, at_row, Turned}
use Rattle.sweep.proofs.Lives.{length-lives, lives-put}
use Rattle.sweep.proofs.Past.{kept-all, kept_on, kept-live}

-- the live rectangles passed, but for the first so many, are moved to stand before those ahead
pub record Turning (z : Sweep) (before after : List ℤ) (passed ahead : ℕ) : Type 0 where
  pub back : ℕ
  pub fewer : passed + back ≡ z.passed
  pub more : ahead + back ≡ z.ahead
  pub still-passed : take passed (lives_of after) ≡ take passed (lives_of before)
  pub ahead-again : drop ahead (lives_of after) ≡ take back (drop passed (lives_of before)) ++ drop z.ahead (lives_of before)
  pub kept-past : KeptPast (live_size * z.ahead) before after

-- at first none is moved
pub turning-none : (z : Sweep) (work : List ℤ) → Turning z work work z.passed z.ahead
turning-none z work = record { back = 0; fewer = omega arith; more = omega arith; still-passed = refl; ahead-again = refl; kept-past = kept-all }

-- one still passed is as it was
pub turning-same : {z : Sweep} {before after : List ℤ} {passed ahead : ℕ} → Turning z before after passed ahead → (i : ℕ) → i < passed → live_at after i ≡ live_at before i
turning-same {before = before} {after = after} {passed = passed} t i h =
    sym (get_or-take passed (lives_of after) i zero_live h)
    ∙ ap (λ (l : List Live). get_or l i zero_live) t.still-passed
    ∙ get_or-take passed (lives_of before) i zero_live h

-- the last one that is passed is moved
pub turning-next : {z : Sweep} {before after : List ℤ} {passed ahead i j : ℕ} → z.passed ≤ z.ahead → live_size * z.ahead ≤ length before → passed ≡ suc i → ahead ≡ suc j → Turning z before after passed ahead → Turning z before (put_live after j (live_at after i)) i j
turning-next {z} {before} {after} {passed} {ahead} {i} {j} fit room d e t =
    let k : Live = live_at after i in
    let same : length after ≡ length before = t.kept-past.same_length in
    let within : live_size * (j + 1) ≤ length after = omega (arith, t.more) in
    let put : lives_of (put_live after j k) ≡ set (lives_of after) j k = lives-put after j k within in
    let from : drop i (lives_of before) ≡ k ∷ drop (suc i) (lives_of before) = drop-cons (lives_of before) i zero_live (omega (arith, length-lives before, t.fewer)) ∙ rw (turning-same t i (omega arith)) in
    let rest : drop (suc j) (lives_of after) ≡ take t.back (drop (suc i) (lives_of before)) ++ drop z.ahead (lives_of before) = rw (d, e) at t.ahead-again in
    record {
      back = suc t.back;
      fewer = omega (arith, t.fewer);
      more = omega (arith, t.more);
      still-passed = ap (take i) put ∙ take-set-le i (lives_of after) j k (omega (arith, t.fewer, t.more)) ∙ sym (take-take i passed (lives_of after) (omega arith)) ∙ ap (take i) t.still-passed ∙ take-take i passed (lives_of before) (omega arith);
      ahead-again = ap (drop j) put ∙ set_first (lives_of after) j k (omega (arith, length-lives after)) ∙ ap (λ (l : List Live). k ∷ l) rest ∙ sym (ap (λ (l : List Live). take (suc t.back) l ++ drop z.ahead (lives_of before)) from);
      kept-past = kept_on t.kept-past (kept-live (live_size * z.ahead) after j k (omega (arith, t.more)));
    }

-- where the last one that is passed is left of the point, or none is, the sweep is turned
pub turning-done : {z : Sweep} {before after : List ℤ} {passed ahead : ℕ} {r : Sweep} (p : Point) → Turning z before after passed ahead → r ≡ at_row z p passed ahead → (passed ≡ 0) ⊎ (le_z (live_at before (passed - 1)).right p.x ≡ true) → Turned p z before r after
turning-done {z} {before} {after} {passed} {ahead} p t e last = subst (λ (r : Sweep). Turned p z before r after) (sym e) (record {
  back = t.back;
  fewer = t.fewer;
  more = t.more;
  at-row = refl;
  still-passed = t.still-passed;
  ahead-again = t.ahead-again;
  last-left = last;
  kept-past = t.kept-past;
})
