-- What is put at an array's start, what is stored after it, and the items that it is read as.
use Prim.Native.Nat.{ℕ, ◌+◌, ◌-◌, ◌*◌, ◌≤◌, ◌<◌}
use native.Mathlib.Omega.{arith}
use native.Mathlib.Numerals.{add-one}
use mathlib.Core.Path.{◌≡◌, sym, ap, subst, ◌∙◌}
use mathlib.Core.List.{List, [], ◌∷◌, ◌++◌, append-nil, append_assoc}
use lib.ListN.{length, take, drop, set, replicate, length-append, length-take, length-drop, length-replicate, take-append-drop, replicate-append-replicate}
use lib.Seq.{take-length, drop-length, take-append_seam, drop-append_seam, drop-append-add, take_at, drop_at, drop-drop, sets, sets-eq}
use lib.IntN.{ℤ}
use Rattle.plane.specs.declared.Point.{Point}
use Rattle.plane.specs.Lists.{at_start, Starts}
use Rattle.plane.specs.Words.{points_of, flat_points, rect_size, rects_of, flat_rects}
use Rattle.plane.proofs.Arrays.{flat_append, length-flat-points, points-append, length-flat-rects, rects-append}

module _ {A : Type 0} where
  -- it is there, and the rest is as it was
  pub start-starts : (items before : List A) → Starts items before (at_start items before)
  start-starts items before = record { start = take-append_seam items _; rest = drop-append_seam items _ }

  -- of an array whose first part has it at its start, so many as there are of it are it, and the array has so many
  module _ (items before rest : List A) {now : List A} {n : ℕ} (e : now ≡ at_start items before) (m : n ≡ length items) where
    pub start-taken : take n (now ++ rest) ≡ items
    start-taken = rw (e, append_assoc) (take_at items _ n (sym m))

    pub start-within : n ≤ length (now ++ rest)
    start-within = omega (arith, ap length start-taken, length-take n (now ++ rest))

  -- the length stays, where it has room
  pub start-length : (items before : List A) → length items ≤ length before → length (at_start items before) ≡ length before
  start-length items before h = omega (arith, length-append items (drop (length items) before), length-drop (length items) before)

  -- more stored after it are a longer start
  pub start-more : (items more before : List A) → length items + length more ≤ length before → sets (at_start items before) (length items) more ≡ at_start (items ++ more) before
  start-more items more before h =
      let i : ℕ = length items in
      let rest : List A = drop i before in
      rw (sets-eq more (items ++ rest) i (omega (arith, length-append items rest, length-drop i before)), take-append_seam items rest, drop-append-add items rest (length more), drop-drop (length more) i before, length-append items more)

  -- so are more put at the start of the part after it
  pub start-part : (items more before : List A) (i : ℕ) → length items ≡ i → let exit = at_start items before in let n = length exit - i in take i exit ++ (at_start more (take n (drop i exit)) ++ drop n (drop i exit)) ≡ at_start (items ++ more) before
  start-part items more before i e =
      let rest : List A = drop (length items) before in
      let n : length (items ++ rest) - i ≡ length rest = omega (arith, length-append items rest) in
      rw (n, take_at items rest i e, drop_at items rest i e, take-length rest, drop-length rest, append-nil (more ++ drop (length more) rest), drop-drop (length more) (length items) before, length-append items more, append_assoc)

  -- one element after so many of the same is one more of them
  pub start-filled : (before : List A) (i : ℕ) (a : A) → i < length before → set (at_start (replicate i a) before) i a ≡ at_start (replicate (i + 1) a) before
  start-filled before i a h =
      let filled : List A = replicate i a in
      let e : length filled ≡ i = length-replicate i a in
      subst (λ (j : ℕ). set (at_start filled before) j a ≡ at_start (filled ++ (a ∷ [])) before) e (start-more filled (a ∷ []) before (omega arith)) ∙ ap (λ (l : List A). at_start l before) (replicate-append-replicate i 1 a)

-- a point stored after points is one more of them
pub start-point : (ps : List Point) (p : Point) (before : List ℤ) (i : ℕ) → length ps ≡ i → 2 * i + 1 < length before → set (set (at_start (flat_points ps) before) (2 * i) p.x) (2 * i + 1) p.y ≡ at_start (flat_points (ps ++ (p ∷ []))) before
unfolding flat_points
start-point ps p before i e room =
    let d : 2 * i ≡ length (flat_points ps) = omega (arith, length-flat-points ps) in
    rw (add-one, flat_append ps (p ∷ []), d) (start-more (flat_points ps) (p.x ∷ p.y ∷ []) before (omega arith))

-- ---- Items at the start

-- items of so many numbers each, written to an array and read from it
pub record Layout {A : Type 0} (size : ℕ) (flat : List A → List ℤ) (items : List ℤ → List A) : Type 0 where
  pub long : (xs : List A) → length (flat xs) ≡ size * length xs
  pub back : (xs : List A) (rest : List ℤ) → items (flat xs ++ rest) ≡ xs ++ items rest

pub points-layout : Layout 2 flat_points points_of
points-layout = record { long = length-flat-points; back = points-append }

pub rects-layout : Layout rect_size flat_rects rects_of
rects-layout = record { long = length-flat-rects; back = rects-append }

module _ {A : Type 0} {size : ℕ} {flat : List A → List ℤ} {items : List ℤ → List A} (layout : Layout size flat items) (xs : List A) {n : ℕ} (counted : n ≡ length xs) {before after : List ℤ} (starts : Starts (flat xs) before after) where
  -- an array that starts with n items has their numbers first
  pub first-numbers : take (size * n) after ≡ flat xs
  first-numbers = rw (counted, ← layout.long xs) starts.start

  -- past them it is unchanged
  pub past-numbers : drop (size * n) after ≡ drop (size * n) before
  past-numbers = rw (counted, ← layout.long xs) starts.rest

  -- and it is read as those items first
  pub first-items : take n (items after) ≡ xs
  first-items =
      let m : ℕ = length (flat xs) in
      let parts : after ≡ flat xs ++ drop m after = rw starts.start at (sym (take-append-drop m after)) in
      rw (counted, parts, layout.back xs (drop m after)) (take-append_seam xs _)
