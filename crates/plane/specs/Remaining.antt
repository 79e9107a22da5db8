-- Points as they are given, and those of them that remain, as request 2 of document 02 has it: points listed an even number of times vanish, the
-- others stand once, where first listed.
use Rattle.std.specs.Prelude.{ℕ, suc, ◌≤◌, ◌≡◌, true, false, not, cond, ℤ}
use mathlib.Core.List.{List, [], ◌∷◌, Memᴰ as In}
use Rattle.plane.specs.declared.Point.{Point}
use Rattle.plane.specs.Lists.{odd, only}
use Rattle.plane.specs.Words.{point_in_range, same, on_row, in_column}

-- points in range, with every row and every column even; one may be given more than once
pub record Balanced (ps : List Point) : Type 0 where
  pub range : (q : Point) → In q ps → point_in_range q ≡ true
  pub rows : (y : ℤ) → odd (on_row y) ps ≡ false
  pub columns : (x : ℤ) → odd (in_column x) ps ≡ false

-- ---- The points that remain

-- each point once, where first listed
unfoldable pub firsts : List Point → List Point
firsts [] = []
firsts (p ∷ ps) = p ∷ only (λ q. not (same p q)) (firsts ps)

-- those listed an odd number of times, each once, where first listed
unfoldable pub remaining : List Point → List Point
remaining ps = only (λ p. odd (same p) ps) (firsts ps)

-- ---- The order of first listing

-- how many points are listed before p is first
unfoldable pub first_at : Point → List Point → ℕ
first_at p [] = 0
first_at p (q ∷ qs) = cond (same p q) 0 (suc (first_at p qs))

-- points stand in the order in which ps first lists them, each once, and none that is first listed before place n
pub data InTurn (ps : List Point) : (n : ℕ) → List Point → Type 0 where
  none : {n : ℕ} → InTurn ps n []
  next : {n : ℕ} {q : Point} {qs : List Point} → n ≤ first_at q ps → InTurn ps (suc (first_at q ps)) qs → InTurn ps n (q ∷ qs)
