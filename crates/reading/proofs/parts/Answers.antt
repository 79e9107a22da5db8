-- `reading::parts` meets its contract.
use Rattle.std.proofs.Common.{ℕ, ◌+◌, ◌<◌, ◌≡◌, List, ◌∷◌, [], length, refl, sym, ◌∙◌, arith, rules, add-one}
use Rattle.std.specs.Option.{unwrap_or}
use Rattle.std.proofs.lemmas.Iterator.{IsFirst-from_position, YieldsList-from_slice, index_from_first}
use borrow.Author.Tests.{tests, eq-eqb, ne_eqb}
use lib.Seq.{take-length, length-take-le}
use Rattle.plane.proofs.AtPlace.{part-rest}
use Rattle.reading.specs.Lines.{before_first}
use Rattle.reading.proofs.Lines.{take-before, drop-before}
use Rattle.reading.proofs.parts.Goals as goal
use Rattle.reading.proofs.parts.Goals.{Start, After-position}

-- how many bytes stand before: none where it is the first, and one more where it is not
module _ (c : ℕ) where
  hit : (b : ℕ) (bs : List ℕ) → b ≡ c → length (before_first c (b ∷ bs)) ≡ 0
  unfolding before_first
  hit b bs e = rw (eq-eqb b c e)

  miss : (b : ℕ) (bs : List ℕ) → (b ≡ c → ⊥) → length (before_first c (b ∷ bs)) ≡ length (before_first c bs) + 1
  unfolding before_first
  miss b bs n = rw (ne_eqb b c n, add-one)

  none : length (before_first c []) ≡ 0
  unfolding before_first
  none = refl

-- so many are before the place that is found
found : (c : After-position) → length (before_first c.args.c c.args.bytes.now) ≡ unwrap_or c.position.result (length c.args.bytes.now)
found c =
    let b = c.args.c in
    let w = IsFirst-from_position _ _ _ (λ x. x ≡ b) (λ x. x ≡ b → ⊥) c.position.ensures.ran (YieldsList-from_slice c.args.bytes.now cc) (λ x q k. search (rules, tests)) (λ x q k. search (rules, tests)) in
    index_from_first (λ t. length (before_first b t)) (λ x. x ≡ b) (λ x. x ≡ b → ⊥) (none b) (hit b) (miss b) c.args.bytes.now c.position.result w

pub returns-in_err-i : goal.returns-in_err-i
returns-in_err-i c =
    let b = c.args.bytes.now in
    let n : length (before_first c.args.c b) ≡ length b = rw c.in_err-i.was at (found (goal.at.returns-in_err-i c).After-position) in
    rw c.from_residual.ensures (sym (take-before c.args.c b) ∙ rw (n, take-length b))

pub returns : goal.returns
returns c =
    let b = c.args.bytes.now in
    let n : length (before_first c.args.c b) ≡ c.in_ok-i.i = rw c.in_ok-i.was at (found (goal.at.returns c).After-position) in
    let h : c.in_ok-i.i < length b = search (rules, c.in_ok-i.ensures.bound) in
    record { before-is = rw (← n, take-before c.args.c b); after-is = rw (part-rest, add-one, ← n, drop-before c.args.c b); found = omega (arith, length-take-le {A = ℕ}) }
