-- Equal neighbours dropped two by two: every test keeps its parity, of a list in order each element that is left comes after those before it; and how
-- far this has come in an array.
use mathlib.Core.Path.{◌≡◌, refl, sym, ap, subst, ◌∙◌}
use Prim.Native.Nat.{ℕ, zero, suc, ◌+◌, ◌-◌, ◌≤◌, ◌<◌}
use native.Mathlib.Numerals.{add-one}
use native.Mathlib.Omega.{arith}
use mathlib.Core.Bool.{Bool, true, false, cond, ◌&&◌, xor}
use mathlib.Core.List.Memᴰ.{head}
use mathlib.Core.List.Memᴰ.{not-nil}
use mathlib.Core.List.Memᴰ.{tail}
use mathlib.Core.List.{List, [], ◌∷◌, ◌++◌, map, Memᴰ as In, append_assoc, append-nil}
use lib.ListN.{length, get_or, take, drop, set, length-set, take-append-drop, drop_of_length-le}
use lib.Seq.{drop-cons, drop-length, drop-drop, drop-set-lt, get_or-drop, set-get_or, take-suc-set, length-take-le}
use lib.Dec.{ltb}
use borrow.Author.Tests.{ltb-true, ltb-false}
use Rattle.plane.specs.Lists.{odd, at_start}
use Rattle.plane.specs.Sorted.{sorted_by}
use Rattle.plane.specs.Swaps.{paired_at, off_pairs}
use Rattle.plane.proofs.Bools.{clash, by, by-no, and_parts, cond-case, xor-back}
use Rattle.plane.proofs.Parity.{odd-cons}
use Rattle.plane.proofs.Sorted.{IsOrder, sorted-first}

-- what holds both where two neighbours are dropped and where the first is kept holds of what is left
off-case : {A : Type 0} (P : List A → Type 0) (equal : A → A → Bool) (a b : A) (l : List A) → (equal a b ≡ true → P (off_pairs equal l)) → (equal a b ≡ false → P (a ∷ off_pairs equal (b ∷ l))) → P (off_pairs equal (a ∷ b ∷ l))
unfolding off_pairs
off-case P equal a b l dropped kept = cond-case P (equal a b) dropped kept

-- elements told by a map, equal where their images are: the images of those left are the images left
pub map-off : {A B : Type 0} (f : A → B) (equal : B → B → Bool) (l : List A) → map f (off_pairs (λ a b. equal (f a) (f b)) l) ≡ off_pairs equal (map f l)
unfolding off_pairs
map-off f equal [] = refl
map-off f equal (a ∷ []) = refl
map-off {B = B} f equal (a ∷ b ∷ l) = go (equal (f a) (f b)) (map-off f equal l) (map-off f equal (b ∷ l))
  where
    go : (t : Bool) → map f (off_pairs (λ c d. equal (f c) (f d)) l) ≡ off_pairs equal (map f l) → map f (off_pairs (λ c d. equal (f c) (f d)) (b ∷ l)) ≡ off_pairs equal (f b ∷ map f l) →
        map f (cond t (off_pairs (λ c d. equal (f c) (f d)) l) (a ∷ off_pairs (λ c d. equal (f c) (f d)) (b ∷ l))) ≡ cond t (off_pairs equal (map f l)) (f a ∷ off_pairs equal (f b ∷ map f l))
    go true dropped kept = dropped
    go false dropped kept = ap (λ (r : List B). f a ∷ r) kept

module _ {A : Type 0} (equal : A → A → Bool) where
  -- no more are left than there were
  pub off-length : (l : List A) → length (off_pairs equal l) ≤ length l
  unfolding off_pairs
  off-length [] = omega arith
  off-length (a ∷ []) = omega arith
  off-length (a ∷ b ∷ l) =
      let dropped = off-length l in
      let kept = off-length (b ∷ l) in
      off-case (λ r. length r ≤ suc (suc (length l))) equal a b l (λ _. omega arith) (λ _. omega arith)

  -- and none that was not there
  off-in : (l : List A) {a : A} → In a (off_pairs equal l) → In a l
  unfolding off_pairs
  off-in [] m = m
  off-in (b ∷ []) m = m
  off-in (b ∷ c ∷ l) {a} m = off-case (λ r. In a r → In a (b ∷ c ∷ l)) equal b c l (λ _ n. tail (tail (off-in l n))) (λ _. kept (λ n. off-in (c ∷ l) n)) m
    where
      kept : (In a (off_pairs equal (c ∷ l)) → In a (c ∷ l)) → In a (b ∷ off_pairs equal (c ∷ l)) → In a (b ∷ c ∷ l)
      kept later (head e) = head e
      kept later (tail m) = tail (later m)

  module _ (Equal-is : (a b : A) → equal a b ≡ true → a ≡ b) where
    -- every test passes as odd a number
    pub off-odd : (f : A → Bool) (l : List A) → odd f (off_pairs equal l) ≡ odd f l
    unfolding off_pairs
    off-odd f [] = refl
    off-odd f (a ∷ []) = refl
    off-odd f (a ∷ b ∷ l) =
        let two = odd-cons f a (b ∷ l) ∙ ap (xor (f a)) (odd-cons f b l) in
        let dropped = off-odd f l in
        let kept = off-odd f (b ∷ l) in
        off-case (λ r. odd f r ≡ odd f (a ∷ b ∷ l)) equal a b l
        (λ e. dropped ∙ sym (two ∙ rw (Equal-is a b e) (xor-back (f b) (odd f l))))
        (λ _. odd-cons f a (off_pairs equal (b ∷ l)) ∙ ap (xor (f a)) kept ∙ sym (odd-cons f a (b ∷ l)))

    module _ {before : A → A → Bool} (is : IsOrder before) (equal-refl : (a : A) → equal a a ≡ true) where
      -- the first of a list in order comes before all others, if it is not equal to the second
      first_alone : (a b : A) (l : List A) → sorted_by before (a ∷ b ∷ l) ≡ a ∷ b ∷ l → equal a b ≡ false → {c : A} → In c (b ∷ l) → before a c ≡ true
      first_alone a b l s e {c} m =
          let h = sorted-first is a (b ∷ l) s in
          let next : before a b ≡ true = by (before a b) (λ n. clash (rw (is.only a b n (h.1 b (head refl))) (equal-refl b)) e) in
          by (before a c) (λ n. clash (rw (is.only a c n (h.1 c m)) at next) (not_back m))
        where
          not_back : In c (b ∷ l) → before c b ≡ false
          not_back (head d) = rw d (by-no (before b b) (λ t. clash t (is.one_way b b t)))
          not_back (tail i) = (sorted-first is b l (sorted-first is a (b ∷ l) s).0).1 c i

      -- of a list in order each element that is left comes before those after it: what holds of no elements, and with one more that comes before all
      -- the others, holds of what is left
      pub off-ascends : (P : List A → Type 0) → P [] → ((a : A) (l : List A) → P l → ((c : A) → In c l → before a c ≡ true) → P (a ∷ l)) → (l : List A) → sorted_by before l ≡ l → P (off_pairs equal l)
      unfolding off_pairs
      off-ascends P none more [] s = none
      off-ascends P none more (a ∷ []) s = more a [] none (λ c m. absurd (not-nil m))
      off-ascends P none more (a ∷ b ∷ l) s =
          let later = (sorted-first is a (b ∷ l) s).0 in
          off-case P equal a b l
          (λ _. off-ascends P none more l (sorted-first is b l later).0)
          (λ e. more a (off_pairs equal (b ∷ l)) (off-ascends P none more (b ∷ l) later) (λ c m. first_alone a b l s e (off-in (b ∷ l) m)))

-- ---- In an array

-- of the elements before place i those that are left are the first ones of the array, and from there on it is as it was
pub record Drops {A : Type 0} (equal : A → A → Bool) (before : List A) (left i : ℕ) (now : List A) : Type 0 where
  pub left-within : left ≤ i
  pub within : i ≤ length before
  pub same_length : length now ≡ length before
  pub same-past : drop left now ≡ drop left before
  pub left-so-far : take left now ++ off_pairs equal (drop i before) ≡ off_pairs equal before

-- of the elements from place i on, that one and the next are dropped if they are paired, and it is left if not
module _ {A : Type 0} (equal : A → A → Bool) (missing : A) (l : List A) (i : ℕ) where
  stands-both : paired_at equal missing l i ≡ true → off_pairs equal (drop i l) ≡ off_pairs equal (drop (i + 2) l)
  unfolding off_pairs
  stands-both e =
      let h = and_parts (ltb (i + 1) (length l)) _ e in
      let next = ltb-true (i + 1) (length l) h.0 in
      let two : i + 2 ≡ suc (i + 1) = omega arith in
      rw (two, drop-cons l i missing (omega arith), ← add-one i, drop-cons l (i + 1) missing next, h.1)

  stands_one : i < length l → paired_at equal missing l i ≡ false → off_pairs equal (drop i l) ≡ get_or l i missing ∷ off_pairs equal (drop (i + 1) l)
  unfolding off_pairs
  stands_one more e = rw (drop-cons l i missing more, ← add-one i) (go (ltb (i + 1) (length l)) refl e)
    where
      go : (t : Bool) → ltb (i + 1) (length l) ≡ t → (t && equal (get_or l i missing) (get_or l (i + 1) missing)) ≡ false → off_pairs equal (get_or l i missing ∷ drop (i + 1) l) ≡ get_or l i missing ∷ off_pairs equal (drop (i + 1) l)
      go true h d = rw (drop-cons l (i + 1) missing (ltb-true (i + 1) (length l) h), d)
      go false h d = rw (drop_of_length-le l {i = i + 1} (ltb-false (i + 1) (length l) h))

module _ {A : Type 0} (equal : A → A → Bool) (before : List A) where
  -- none is passed
  pub drops-none : Drops equal before 0 0 before
  drops-none = record { left-within = omega arith; within = omega arith; same_length = refl; same-past = refl; left-so-far = refl }

  -- all are passed
  pub drops-all : {left i : ℕ} {now : List A} → i ≡ length before → Drops equal before left i now → (left ≡ length (off_pairs equal before)) × (now ≡ at_start (off_pairs equal before) before)
  unfolding off_pairs
  drops-all {left} {i} {now} e d =
      let all : take left now ≡ off_pairs equal before = sym (append-nil (take left now)) ∙ (rw (e, drop-length before) at d.left-so-far) in
      let many : left ≡ length (off_pairs equal before) = sym (length-take-le left now (omega (arith, d.left-within, d.within, d.same_length))) ∙ ap length all in
      (many, sym (take-append-drop left now) ∙ rw (all, d.same-past, ← many))

  module _ (missing : A) {left i : ℕ} {now : List A} (d : Drops equal before left i now) (more : i < length before) where
    -- a place that is not yet passed is as it was
    still : (j : ℕ) → i ≤ j → get_or now j missing ≡ get_or before j missing
    still j h =
        let e : j ≡ left + (j - left) = omega (arith, d.left-within) in
        ap (λ k. get_or now k missing) e ∙ sym (get_or-drop left now (j - left) missing) ∙ ap (λ l. get_or l (j - left) missing) d.same-past ∙ get_or-drop left before (j - left) missing ∙ ap (λ k. get_or before k missing) (sym e)

    -- and so is whether it is paired
    still-paired : paired_at equal missing now i ≡ paired_at equal missing before i
    still-paired = rw (d.same_length, still i (omega arith), still (i + 1) (omega arith))

    -- the next two are equal: both are dropped
    pub drops-both : paired_at equal missing now i ≡ true → Drops equal before left (i + 2) now
    drops-both e =
        let paired = sym still-paired ∙ e in
        let next = ltb-true (i + 1) (length before) (and_parts (ltb (i + 1) (length before)) _ paired).0 in
        record { left-within = omega (arith, d.left-within); within = omega arith; same_length = d.same_length; same-past = d.same-past; left-so-far = rw (← stands-both equal missing before i paired) d.left-so-far }

    -- they are not: the first is left
    pub drops-one : paired_at equal missing now i ≡ false → Drops equal before (left + 1) (i + 1) (set now left (get_or now i missing))
    drops-one e =
        let a : A = get_or now i missing in
        let room : left < length now = omega (arith, d.left-within, d.same_length) in
        record {
          left-within = omega (arith, d.left-within);
          within = omega arith;
          same_length = length-set now left a ∙ d.same_length;
          same-past = drop-set-lt (left + 1) now left a (omega arith) ∙ later;
          left-so-far = rw (add-one left, take-suc-set now left a room, append_assoc, still i (omega arith), ← stands_one equal missing before i more (sym still-paired ∙ e)) d.left-so-far;
        }
      where
        later : drop (left + 1) now ≡ drop (left + 1) before
        later = sym (drop-drop 1 left now) ∙ ap (drop 1) d.same-past ∙ drop-drop 1 left before

  -- where no two before place i are paired, all before it are left
  pub drops-from : (missing : A) (i : ℕ) → i ≤ length before → ((j : ℕ) → j < i → paired_at equal missing before j ≡ false) → Drops equal before i i before
  drops-from missing zero h none = drops-none
  drops-from missing (suc i) h none =
      rw add-one at (subst (λ l. Drops equal before (i + 1) (i + 1) l) (set-get_or before i missing) (drops-one missing (drops-from missing i (omega arith) (λ j l. none j (omega arith))) (omega arith) (none i (omega arith))))
