-- Items put over an array's from a place on, and the part from there on.
use Prim.Native.Nat.{ℕ, ◌+◌, ◌-◌, ◌≤◌, ◌<◌}
use native.Mathlib.Omega.{arith}
use mathlib.Core.Path.{◌≡◌, refl, sym, ◌∙◌}
use mathlib.Core.Bool.{Bool, true, false, cond}
use mathlib.Core.List.{List, ◌++◌, append_assoc}
use lib.ListN.{length, take, drop, length-append, length-drop, take-append-drop}
use lib.Seq.{length-take-le, take_all, take_at, drop_at, drop-append-add, drop-drop, take-append_seam, sets, sets-eq}
use lib.Dec.{leb}
use borrow.Author.Tests.{le-leb, lt-leb, leb-true}
use Rattle.plane.specs.Lists.{at_start, pasted, put_at}

module _ {A : Type 0} where
  -- with room the items are put, and without it nothing is
  pub put-with-room : (before : List A) (at : ℕ) (items : List A) → at + length items ≤ length before → put_at before at items ≡ pasted before at items
  unfolding put_at
  put-with-room before at items h = rw (le-leb (at + length items) (length before) h)

  pub put-without-room : (before : List A) (at : ℕ) (items : List A) → length before < at + length items → put_at before at items ≡ before
  unfolding put_at
  put-without-room before at items h = rw (lt-leb (at + length items) (length before) h)

  -- the array stays as long as it was
  pub pasted_length : (before : List A) (at : ℕ) (items : List A) → at + length items ≤ length before → length (pasted before at items) ≡ length before
  pasted_length before at items h = simp (length-append, length-drop) (omega (arith, length-take-le at before (omega arith)))

  -- items stored one after the other are put
  pub stored-pasted : (before : List A) (at : ℕ) (items : List A) → at + length items ≤ length before → sets before at items ≡ pasted before at items
  stored-pasted before at items h = rw (drop-drop (length items) at before) (sets-eq items before at h ∙ append_assoc (take at before) items (drop (at + length items) before))

  -- what is before the place after the items, and what is after it
  module _ (before : List A) (at : ℕ) (xs : List A) (within : at ≤ length before) where
    head-length : length (take at before ++ xs) ≡ at + length xs
    head-length = simp length-append (omega (arith, length-take-le at before within))

    in_two : pasted before at xs ≡ (take at before ++ xs) ++ drop (at + length xs) before
    in_two = rw (drop-drop (length xs) at before) (sym (append_assoc (take at before) xs (drop (at + length xs) before)))

    take-pasted : take (at + length xs) (pasted before at xs) ≡ take at before ++ xs
    take-pasted = rw in_two (take_at (take at before ++ xs) (drop (at + length xs) before) (at + length xs) head-length)

    drop-pasted : (n : ℕ) → drop (at + length xs + n) (pasted before at xs) ≡ drop (at + length xs + n) before
    drop-pasted n = rw in_two (rw head-length at (drop-append-add (take at before ++ xs) (drop (at + length xs) before) n) ∙ drop-drop n (at + length xs) before)

  -- items put after items: both put at once
  pub pasted-then : (before : List A) (at : ℕ) (xs ys : List A) → at ≤ length before → pasted (pasted before at xs) (at + length xs) ys ≡ pasted before at (xs ++ ys)
  pasted-then before at xs ys h =
      let m : at + length (xs ++ ys) ≡ at + length xs + length ys = omega (arith, length-append xs ys) in
      rw (drop-drop (length ys) (at + length xs) (pasted before at xs), drop-drop (length (xs ++ ys)) at before, take-pasted before at xs h, drop-pasted before at xs h (length ys), m) (simp append_assoc)

  -- put at the start, they are the first
  pub pasted-front : (before items : List A) → take (length items) (pasted before 0 items) ≡ items
  pasted-front before items = take-append_seam items (drop (length items) before)

  -- what stands there, put there again, changes nothing
  pub pasted-same : (before : List A) (at k : ℕ) → at + k ≤ length before → pasted before at (take k (drop at before)) ≡ before
  pasted-same before at k h =
      let l : length (take k (drop at before)) ≡ k = length-take-le k (drop at before) (rw (length-drop at before) (omega arith)) in
      rw (l, take-append-drop k (drop at before)) (take-append-drop at before)

  -- items put are there
  pub pasted-there : (before : List A) (at : ℕ) (items : List A) → at ≤ length before → take (length items) (drop at (pasted before at items)) ≡ items
  pasted-there before at items h = rw (drop_at (take at before) (at_start items (drop at before)) at (length-take-le at before h)) (take-append_seam items _)

  -- put or not, the array stays as long as it was
  pub put-length : (before : List A) (at : ℕ) (items : List A) → length (put_at before at items) ≡ length before
  unfolding put_at
  put-length before at items = go (leb (at + length items) (length before)) refl
    where
      go : (t : Bool) → leb (at + length items) (length before) ≡ t → length (cond t (pasted before at items) before) ≡ length before
      go true e = pasted_length before at items (leb-true (at + length items) (length before) e)
      go false e = refl

  -- the part of an array from a place on is what comes from there
  pub part-rest : (a : List A) (i : ℕ) → take (length a - i) (drop i a) ≡ drop i a
  part-rest a i = take_all (length a - i) (drop i a) (omega (arith, length-drop i a))
