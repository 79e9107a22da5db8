-- A line's point is what document 01 says: x, one space, y, newline, and a last line without its newline is bad.
use Prim.Native.Nat.{ℕ}
use native.Mathlib.Omega.{arith}
use mathlib.Core.Path.{◌≡◌, refl, ap}
use mathlib.Core.Logic.{◌↔◌}
use mathlib.Core.Bool.{Bool, true, false, cond}
use mathlib.Core.List.{List, [], ◌∷◌, ◌++◌}
use Rattle.std.specs.Prelude.{Option, None, Some}
use Rattle.std.proofs.lemmas.Option.{none-some}
use lib.IntN.{ℤ}
use lib.Dec.{eqb}
use borrow.Author.Tests.{eqb-true, eq-eqb, ne_eqb}
use Rattle.plane.specs.declared.Point.{Point}
use Rattle.plane.specs.Lists.{any}
use Rattle.plane.proofs.Bools.{by, and_parts, or_parts}
use Rattle.numerals.specs.Numerals.{minus, is_digit, are_digits, value_of, as_plain, as_negative, number_of}
use Rattle.numerals.proofs.Reading.{digit-range, value-undigits}
use Rattle.reading.specs.Lines.{space, before_first, after_first, Line, point_from, line_point, GoodLine, is_bad}
use Rattle.reading.proofs.Lines.{good-ended}

-- ---- A byte that parts bytes

-- where something comes after the first byte c, that byte parts the bytes
parts : (c : ℕ) (t : List ℕ) → ¬ (after_first c t ≡ []) → t ≡ before_first c t ++ (c ∷ after_first c t)
unfolding before_first after_first
parts c [] n = absurd (n refl)
parts c (b ∷ bs) n = go (parts c bs) (eqb b c) refl n
  where
    go : (¬ (after_first c bs ≡ []) → bs ≡ before_first c bs ++ (c ∷ after_first c bs)) → (u : Bool) → eqb b c ≡ u → ¬ (cond u bs (after_first c bs) ≡ []) → b ∷ bs ≡ cond u [] (b ∷ before_first c bs) ++ (c ∷ cond u bs (after_first c bs))
    go ih true e n = rw (eqb-true b c e)
    go ih false e n = ap (λ (l : List ℕ). b ∷ l) (ih n)

-- bytes without it are parted there
parted : (c : ℕ) (xs ys : List ℕ) → any (λ b. eqb b c) xs ≡ false → (before_first c (xs ++ (c ∷ ys)) ≡ xs) × (after_first c (xs ++ (c ∷ ys)) ≡ ys)
unfolding before_first after_first any
parted c [] ys h = rw (eq-eqb c c refl) (refl, refl)
parted c (b ∷ xs) ys h =
    let k = or_parts (eqb b c) (any (λ a. eqb a c) xs) h in
    let ih = parted c xs ys k.1 in
    rw k.0 (ap (λ (l : List ℕ). b ∷ l) ih.0, ih.1)

-- ---- A number has no space

digits-no-space : (bs : List ℕ) → ¬ (value_of bs ≡ None) → any (λ b. eqb b space) bs ≡ false
unfolding are_digits any
digits-no-space bs n = go bs (by (are_digits bs) (λ f. n (value-undigits bs f)))
  where
    go : (bs : List ℕ) → are_digits bs ≡ true → any (λ b. eqb b space) bs ≡ false
    go [] e = refl
    go (b ∷ bs) e =
        let k = and_parts (is_digit b) (are_digits bs) e in
        let r = digit-range b k.0 in
        rw (ne_eqb b space (omega arith)) (go bs k.1)

number-no-space : (bs : List ℕ) {z : ℤ} → number_of bs ≡ Some z → any (λ b. eqb b space) bs ≡ false
unfolding number_of any
number-no-space [] e = refl
number-no-space (b ∷ bs) e = go (eqb b minus) refl e
  where
    go : {z : ℤ} (u : Bool) → eqb b minus ≡ u → cond u (as_negative (value_of bs)) (as_plain (value_of (b ∷ bs))) ≡ Some z → any (λ c. eqb c space) (b ∷ bs) ≡ false
    go true d e =
        let k : b ≡ minus = eqb-true b minus d in
        rw (ne_eqb b space (omega arith)) (digits-no-space bs (λ f. none-some _ (rw f at e)))
    go false d e = digits-no-space (b ∷ bs) (λ f. none-some _ (rw f at e))

-- ---- A good line

from-both : (o u : Option ℤ) {p : Point} → point_from o u ≡ Some p → (o ≡ Some p.x) × (u ≡ Some p.y)
from-both None u e = absurd (none-some _ e)
from-both (Some a) None e = absurd (none-some _ e)
from-both (Some a) (Some b) {p} e =
    let k : record { x = a; y = b } ≡ p = cc in
    (ap (λ (q : Point). Some q.x) k, ap (λ (q : Point). Some q.y) k)

-- a line's point is (x, y) exactly when the line is x, one space, y, newline
pub good-exactly : (l : Line) (x y : ℤ) → (line_point l ≡ Some (record { x = x; y = y })) ↔ GoodLine l x y
unfolding line_point number_of
good-exactly l x y = (go, back)
  where
    go : line_point l ≡ Some (record { x = x; y = y }) → GoodLine l x y
    go e =
        let d = good-ended l e in
        let k = from-both (number_of (before_first space l.bytes)) (number_of (after_first space l.bytes)) (rw d at e) in
        record { xs = before_first space l.bytes; ys = after_first space l.bytes; bytes = parts space l.bytes (λ f. none-some _ (rw f at k.1)); ended = d; first = k.0; second = k.1 }

    back : GoodLine l x y → line_point l ≡ Some (record { x = x; y = y })
    back g = let p = parted space g.xs g.ys (number-no-space g.xs g.first) in rw (g.ended, g.bytes, p.0, p.1, g.first, g.second)

-- a line that no newline ends is bad
pub unended-bad : (l : Line) → l.ended ≡ false → is_bad l ≡ true
unfolding is_bad line_point
unended-bad l e = rw e
