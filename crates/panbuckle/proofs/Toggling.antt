-- A working array with a point put or toggled, and what it keeps from toggle to toggle.
use Prim.Native.Nat.{ℕ, zero, suc, ◌<◌, ◌≤◌, ◌+◌, ◌*◌, ◌-◌}
use native.Mathlib.Numerals.{add-one}
use native.Mathlib.Omega.{arith}
use mathlib.Core.Path.{◌≡◌, refl, sym, ap, ◌∙◌}
use mathlib.Core.List.{List, [], ◌∷◌, ◌++◌, append_assoc}
use mathlib.Core.Option.{get_or}
use lib.ListN.{length, take, set, length-set, length-append, length-take, replicate, drop}
use lib.IntN.{ℤ, pos}
use lib.Dec.{ltb}
use Rattle.std.specs.Prelude.{Option as Found, Some, None, position}
use Rattle.std.specs.List.{position_or_len}
use mathlib.Core.Bool.{Bool, true, false, cond}
use borrow.Author.Tests.{lt-ltb, le-ltb, ltb-true, ltb-false}
use Rattle.plane.specs.declared.Point.{Point}
use Rattle.plane.specs.Words.{origin, points_of, flat_points, point_at, same}
use Rattle.plane.proofs.Bools.{cond-case}
use Rattle.plane.proofs.Arrays.{twice-suc, length-flat-points}
use Rattle.plane.proofs.Places.{set_last}
use Rattle.rule.specs.Rule.{place_of, remove, add, toggle}
use Rattle.rule.specs.Working.{work_of, padded}
use Rattle.rule.proofs.Toggle.{toggle-at, toggle-length, place-first}
use Rattle.entry.proofs.Search.{position-first}
use Rattle.rule.proofs.Working.{work-length, work-points, work-held, work-origin, work-again}
use Rattle.panbuckle.specs.Inner.{held, put, most}
use Rattle.panbuckle.proofs.Scan.{held-length, held_at, fewer}

-- ---- A point put

-- a point put at the place of a point, in an array that starts with points
put-flat : (ps : List Point) (rest : List ℤ) (i : ℕ) (p : Point) → i < length ps → put (flat_points ps ++ rest) i p ≡ flat_points (set ps i p) ++ rest
unfolding flat_points
put-flat [] rest i p h = absurd (omega arith)
put-flat (q ∷ ps) rest zero p h = refl
put-flat (q ∷ ps) rest (suc i) p h = rw (add-one, twice-suc i) (ap (λ (l : List ℤ). q.x ∷ q.y ∷ l) (rw (← add-one (2 * i)) (put-flat ps rest i p (omega arith))))

-- the same in a working array
put-work : (n : ℕ) (ps : List Point) (work : List ℤ) (i : ℕ) (p : Point) → i < length ps → put (work_of n ps work) i p ≡ work_of n (set ps i p) work
unfolding work_of padded
put-work n ps work i p h =
    let zeros : List ℤ = replicate (2 * (n - length ps)) (pos 0) in
    let rest : List ℤ = drop (length (flat_points ps ++ zeros)) work in
    let same_length : length (flat_points (set ps i p) ++ zeros) ≡ length (flat_points ps ++ zeros) = omega (arith, length-append (flat_points ps) zeros, length-append (flat_points (set ps i p)) zeros, length-flat-points ps, length-flat-points (set ps i p), length-set ps i p) in
    rw (length-set ps i p, same_length, append_assoc (flat_points ps) zeros rest, append_assoc (flat_points (set ps i p)) zeros rest) (put-flat ps (zeros ++ rest) i p h)

-- ---- A point's place

-- where the library finds the first item that passes, and where it finds none
pub at-place : {A : Type 0} (f : A → Bool) (l : List A) {r : Found ℕ} {i : ℕ} → r ≡ position f l → r ≡ Some i → (i ≡ position_or_len f l) × (i < length l)
at-place f l {i = i} e d = go (ltb (position_or_len f l) (length l)) refl (sym d ∙ e)
  where
    go : (b : Bool) → ltb (position_or_len f l) (length l) ≡ b → Some i ≡ cond b (Some (position_or_len f l)) None → (i ≡ position_or_len f l) × (i < length l)
    go true h g = let same : i ≡ position_or_len f l = cc in (same, omega (arith, ltb-true _ _ h))
    go false h g = cc

pub at_none : {A : Type 0} (f : A → Bool) (l : List A) {r : Found ℕ} → r ≡ position f l → r ≡ None → length l ≤ position_or_len f l
at_none f l e d = go (ltb (position_or_len f l) (length l)) refl (sym d ∙ e)
  where
    go : (b : Bool) → ltb (position_or_len f l) (length l) ≡ b → None ≡ cond b (Some (position_or_len f l)) None → length l ≤ position_or_len f l
    go true h g = cc
    go false h g = ltb-false _ _ h

-- the rule's place of a point is the library's
pub place-is : (p : Point) (ps : List Point) → position_or_len (same p) ps ≡ get_or (place_of p ps) (length ps)
place-is p ps = position-first (same p) ps origin (λ i. same p (point_at ps i)) (λ i h. refl) ∙ sym (place-first p ps)

-- ---- A point toggled

-- of n points in a working array, p has place i, or place n where it is absent
module _ (n : ℕ) (work : List ℤ) (p : Point) (fits : 2 * n ≤ length work) (i : ℕ) (place : i ≡ get_or (place_of p (held n work)) (length (held n work))) where
  -- a present point is removed: the last one is put in its place, and zeros in the last place
  pub toggle-present : i < n → {q z : Point} → q ≡ point_at (points_of work) (n - 1) → z ≡ origin → (n - 1 ≡ length (toggle (held n work) p)) × (put (put work i q) (n - 1) z ≡ work_of (most n (n - 1)) (toggle (held n work) p) work)
  unfolding remove
  toggle-present h {q} {z} eq ez =
      let ps : List Point = held n work in
      let c : length ps ≡ n = held-length n work fits in
      let d : length (set ps i q) ≡ n = length-set ps i q ∙ c in
      let f : length (take (n - 1) (set ps i q)) ≡ n - 1 = length-take (n - 1) (set ps i q) ∙ omega arith in
      let t : toggle ps p ≡ take (n - 1) (set ps i q) = (toggle-at ps p).0 (let e = place in omega arith) ∙ rw (← place, c, eq, held_at n work fits (n - 1) (omega arith)) in
      rw (t, le-ltb n (n - 1) (omega arith), ez) (
        sym f,
        ap (λ (l : List ℤ). put (put l i q) (n - 1) origin) (work-held n work fits)
            ∙ ap (λ (l : List ℤ). put l (n - 1) origin) (put-work n ps work i q (omega arith))
            ∙ put-work n (set ps i q) work (n - 1) origin (omega arith)
            ∙ ap (λ (l : List Point). work_of n l work) (set_last (set ps i q) (n - 1) origin (omega arith))
            ∙ work-origin n (take (n - 1) (set ps i q)) work (omega arith),
      )

  -- an absent point comes after them
  absent-added : n ≤ i → toggle (held n work) p ≡ held n work ++ (p ∷ [])
  unfolding add
  absent-added h = (toggle-at (held n work) p).1 (let e = place in let c = held-length n work fits in omega arith)

  -- so they are one more
  pub absent_more : n ≤ i → n + 1 ≡ length (toggle (held n work) p)
  absent_more h = rw (absent-added h) (omega (arith, length-append (held n work) (p ∷ []), held-length n work fits))

  -- an absent point is added: it is put in the place after the last
  pub toggle-absent : n ≤ i → 2 * length (toggle (held n work) p) ≤ length work → (n + 1 ≡ length (toggle (held n work) p)) × (put work n p ≡ work_of (most n (n + 1)) (toggle (held n work) p) work)
  toggle-absent h room =
      let more : List Point = held (n + 1) work in
      let e = absent_more h in
      let d : length more ≡ n + 1 = held-length (n + 1) work (omega arith) in (
        e,
        rw (absent-added h, lt-ltb n (n + 1) (omega arith)) (
            ap (λ (l : List ℤ). put l n p) (work-held (n + 1) work (omega arith))
            ∙ put-work (n + 1) more work n p (omega arith)
            ∙ ap (λ (l : List Point). work_of (n + 1) l work) (set_last more n p d ∙ ap (λ (l : List Point). l ++ (p ∷ [])) (fewer (n + 1) work n (omega arith)))),
      )

-- n points in an array, with p toggled
module _ (n : ℕ) (a : List ℤ) (p : Point) where
  -- they are at most one more
  pub toggle-few : 2 * n ≤ length a → length (toggle (held n a) p) ≤ n + 1
  toggle-few h = omega (arith, (toggle-length (held n a) p).0, held-length n a h)

  -- the array holds them afterwards
  pub toggled-held : {b : List ℤ} {r : ℕ} → (r ≡ length (toggle (held n a) p)) × (b ≡ work_of (most n r) (toggle (held n a) p) a) → held r b ≡ toggle (held n a) p
  toggled-held {b} {r} e =
      let qs : List Point = toggle (held n a) p in
      let few : length qs ≤ most n r = cond-case (λ j. length qs ≤ j) (ltb n r) (λ t. omega (arith, e.0)) (λ t. omega (arith, e.0, ltb-false n r t)) in
      rw e.1 (ap (λ j. held j (work_of (most n r) qs a)) e.0 ∙ work-points (most n r) qs a)

-- ---- From toggle to toggle

-- the array b is the working array a, of N points, with the n points ps
pub record Keeps (N : ℕ) (a b : List ℤ) (n : ℕ) (ps : List Point) : Type 0 where
  pub all : b ≡ work_of N ps a
  pub many : n ≡ length ps
  pub within : length ps ≤ N
  pub fits : 2 * N ≤ length a

-- at the start it is the array itself
pub keeps-first : {N : ℕ} {a : List ℤ} → 2 * N ≤ length a → Keeps N a a N (held N a)
keeps-first {N} {a} h = let c = held-length N a h in record { all = work-held N a h; many = sym c; within = omega arith; fits = h }

module _ {N : ℕ} {a b : List ℤ} {n : ℕ} {ps : List Point} (k : Keeps N a b n ps) where
  -- the points that it holds are those
  kept : held n b ≡ ps
  kept = rw (k.many, k.all) (work-points N ps a)

  -- what toggling a point asks
  pub keeps-room : (p : Point) → length (toggle ps p) ≤ N → (2 * n ≤ length b) × (2 * length (toggle (held n b) p) ≤ length b)
  keeps-room p h = let l : length b ≡ length a = ap length k.all ∙ work-length N ps a k.within k.fits in rw kept (omega arith)

  -- what toggling a point gives
  pub keeps-toggled : (p : Point) {b' : List ℤ} {n' : ℕ} → length (toggle ps p) ≤ N → (n' ≡ length (toggle (held n b) p)) × (b' ≡ work_of (most n n') (toggle (held n b) p) b) → Keeps N a b' n' (toggle ps p)
  keeps-toggled p {b'} {n'} h e =
      let qs : List Point = toggle ps p in
      let m : n' ≡ length qs = e.0 ∙ ap (λ rs. length (toggle rs p)) kept in
      let P : ℕ → Type 0 = λ j. work_of j qs (work_of N ps a) ≡ work_of N qs a in
      let w : P (most n n') = cond-case P (ltb n n')
      (λ t. let l = ltb-true n n' t in work-again n' N ps qs a (omega arith) (omega arith) (omega arith))
      (λ t. let l = ltb-false n n' t in work-again n N ps qs a (omega arith) (omega arith) (omega arith)) in
      record { all = e.1 ∙ rw (kept, k.all) w; many = m; within = h; fits = k.fits }
