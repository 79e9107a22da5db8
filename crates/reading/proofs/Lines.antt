-- Laws of lines: the bytes before and after a byte, a text's first line, and a loop that goes from line to line.
use mathlib.Core.Path.{◌≡◌, refl, ap, ◌∙◌}
use Prim.Native.Nat.{ℕ, suc, ◌+◌, ◌≤◌, ◌<◌}
use native.Mathlib.Nat.{add-zero}
use native.Mathlib.Omega.{arith}
use native.Mathlib.Numerals.{add-one}
use mathlib.Core.Bool.{Bool, true, false, cond, true≢false}
use mathlib.Core.List.{List, [], ◌∷◌, ◌++◌}
use Rattle.std.specs.Prelude.{Option, None, Some}
use lib.ListN.{length, take, drop, length-drop, drop_of_length-le}
use lib.Seq.{take-suc, drop-drop, get_or-drop}
use lib.Dec.{eqb, ltb, leb-suc-suc}
use borrow.Author.Tests.{lt-ltb}
use Rattle.plane.specs.declared.Point.{Point}
use Rattle.plane.proofs.Bools.{by, cond-case}
use Rattle.entry.proofs.Search.{NoneBelow}
use Rattle.reading.specs.Lines.{newline, before_first, after_first, Line, onto, lines_of, line_at, line_point, is_bad, with_point, is_none, points_in}
use Rattle.reading.specs.Inner.{first_line, BeginsWith}

-- ---- Bytes

module _ (c : ℕ) where
  -- the bytes before are the first ones
  pub take-before : (t : List ℕ) → take (length (before_first c t)) t ≡ before_first c t
  unfolding before_first
  take-before [] = refl
  take-before (b ∷ bs) = let h = take-before bs in cond-case (λ (l : List ℕ). take (length l) (b ∷ bs) ≡ l) (eqb b c) (λ e. refl) (λ e. ap (λ (l : List ℕ). b ∷ l) h)

  -- what comes after them and the byte itself
  pub drop-before : (t : List ℕ) → drop (suc (length (before_first c t))) t ≡ after_first c t
  unfolding before_first after_first
  drop-before [] = refl
  drop-before (b ∷ bs) = go (drop-before bs) (eqb b c)
    where
      go : drop (suc (length (before_first c bs))) bs ≡ after_first c bs → (u : Bool) → drop (length (cond u [] (b ∷ before_first c bs))) bs ≡ cond u bs (after_first c bs)
      go h true = refl
      go h false = h

  -- where there is none, nothing comes after it
  pub after_none : (t : List ℕ) → length (before_first c t) ≡ length t → after_first c t ≡ []
  after_none t e = rw (← drop-before t) (drop_of_length-le t {i = suc (length (before_first c t))} (omega arith))

-- ---- The first line

-- a text that is not empty is this line, and then the lines of what comes after it
pub first-line : (t : List ℕ) → 0 < length t → lines_of t ≡ first_line t ∷ lines_of (after_first newline t)
unfolding lines_of before_first after_first
first-line [] h = absurd (omega arith)
first-line (b ∷ bs) h = go bs (first-line bs) (eqb b newline)
  where
    go :
        (bs : List ℕ) → (0 < length bs → lines_of bs ≡ first_line bs ∷ lines_of (after_first newline bs)) → (u : Bool) →
        let front = cond u [] (b ∷ before_first newline bs) in
        cond u (record { bytes = []; ended = true } ∷ lines_of bs) (onto b (lines_of bs)) ≡ record { bytes = front; ended = ltb (length front) (suc (length bs)) } ∷ lines_of (cond u bs (after_first newline bs))
    go bs ih true = rw (lt-ltb 0 (suc (length bs)) (omega arith))
    go [] ih false = refl
    go (a ∷ bs) ih false = rw (ih (omega arith)) (simp leb-suc-suc)

-- ---- From line to line

-- after so many lines of a text these bytes are left
pub record Reached (t rest : List ℕ) (count : ℕ) : Type 0 where
  pub few : count + length rest ≤ length t
  pub counted : count ≤ length (lines_of t)
  pub left : lines_of rest ≡ drop count (lines_of t)

-- the line after them has the point p, and the next bytes are left after it
pub record Passed (t : List ℕ) (count : ℕ) (p : Point) (next : List ℕ) : Type 0 where
  pub line : count < length (lines_of t)
  pub point : line_point (line_at (lines_of t) count) ≡ Some p
  pub reached : Reached t next (count + 1)

-- a line that has a point is ended
pub good-ended : (l : Line) {p : Point} → line_point l ≡ Some p → l.ended ≡ true
unfolding line_point
good-ended l e = by l.ended (λ f. cc (rw f at e))

pub reached-start : (t : List ℕ) → Reached t t 0
reached-start t = record { few = omega arith; counted = omega arith; left = refl }

module _ {t rest : List ℕ} {count : ℕ} (r : Reached t rest count) where
  -- the line at the start of what is left is the next one
  this-line : line_at (lines_of rest) 0 ≡ line_at (lines_of t) count
  this-line = rw r.left (get_or-drop count (lines_of t) 0 _ ∙ rw add-zero)

  module _ (h : 0 < length rest) where
    -- there is one
    one_left : count < length (lines_of t)
    one_left = omega (arith, length-drop count (lines_of t), ap length r.left, ap length (first-line rest h))

    -- it is the first line
    next-first : line_at (lines_of t) count ≡ first_line rest
    next-first = rw (← this-line, first-line rest h)

    -- it is bad
    pub reached-bad : line_point (first_line rest) ≡ None → (count < length (lines_of t)) × (is_bad (line_at (lines_of t) count) ≡ true)
    unfolding is_bad
    reached-bad e = (one_left, rw (next-first, e))

  -- it is good
  pub reached-next : {p : Point} {next : List ℕ} → BeginsWith rest p next → Passed t count p next
  reached-next {p} {next} b =
      let h : 0 < length rest = omega (arith, b.less) in
      record {
        line = one_left h;
        point = rw (next-first h, b.point);
        reached = record { few = omega (arith, r.few, b.less); counted = omega (arith, one_left h); left = rw (b.rest-is, ← drop-drop 1 count (lines_of t), ← r.left, first-line rest h) };
      }

  -- where nothing is left every line is passed
  pub reached-end : length rest ≡ 0 → count ≡ length (lines_of t)
  unfolding lines_of
  reached-end h = omega (arith, r.counted, length-drop count (lines_of t), ap length r.left, ap (λ (u : List ℕ). length (lines_of u)) (empty rest h))
    where
      empty : (u : List ℕ) → length u ≡ 0 → u ≡ []
      empty [] e = refl
      empty (b ∷ bs) e = absurd (omega arith)

-- ---- Points

-- the points of lines after lines
points-append : (ls ms : List Line) → points_in (ls ++ ms) ≡ points_in ls ++ points_in ms
unfolding points_in
points-append [] ms = refl
points-append (l ∷ ls) ms = rw (points-append ls ms) (go (line_point l))
  where
    go : (o : Option Point) → with_point o (points_in ls ++ points_in ms) ≡ with_point o (points_in ls) ++ points_in ms
    go None = refl
    go (Some p) = refl

-- one line more has one point more
pub points-next : (ls : List Line) (i : ℕ) {p : Point} → i < length ls → line_point (line_at ls i) ≡ Some p → points_in (take (i + 1) ls) ≡ points_in (take i ls) ++ (p ∷ [])
unfolding points_in
points-next ls i h e = rw (add-one i, take-suc ls i (record { bytes = []; ended = false }) h, points-append (take i ls) (line_at ls i ∷ []), e)

-- good lines have a point each
pub points-all : (ls : List Line) → NoneBelow (length ls) (λ i. is_bad (line_at ls i)) → length (points_in ls) ≡ length ls
unfolding points_in is_bad
points-all [] good = refl
points-all (l ∷ ls) good = go (points-all ls (λ i h. good (suc i) (omega arith))) (line_point l) (good 0 (omega arith))
  where
    go : length (points_in ls) ≡ length ls → (o : Option Point) → is_none o ≡ false → length (with_point o (points_in ls)) ≡ suc (length ls)
    go h None e = absurd (true≢false e)
    go h (Some p) e = ap suc h
