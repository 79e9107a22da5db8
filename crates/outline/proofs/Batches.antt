-- Batches of points: the keys of a batch, how one is gathered from the corners, and the answer as one batch after another.
use Prim.Native.Nat.{ℕ, suc, ◌+◌, ◌-◌, ◌*◌, ◌≤◌, ◌<◌}
use native.Mathlib.Numerals.{add-one}
use native.Mathlib.Omega.{arith}
use mathlib.Core.Path.{◌≡◌, refl, sym, ap, ◌∙◌}
use mathlib.Core.Bool.{Bool, true, false, ◌&&◌, and-false}
use mathlib.Core.List.Memᴰ.{head}
use mathlib.Core.List.Memᴰ.{tail}
use mathlib.Core.List.{List, [], ◌∷◌, ◌++◌, Memᴰ as In, map-append}
use lib.ListN.{length, take, drop, length-append, length-map}
use lib.Seq.{drop-cons}
use lib.IntN.{ℤ}
use lib.Dec.{eqb, leb, ltb}
use borrow.Author.Tests.{ltb-true, ltb-false, lt-ltb, le-ltb, le-leb, lt-leb}
use Rattle.plane.specs.declared.Point.{Point}
use Rattle.plane.specs.declared.Rect.{Rect}
use Rattle.plane.specs.Lists.{odd, only, at_start}
use Rattle.plane.specs.Words.{flat_points, corners_of, point_in_range, rising_after, rising, rect_at}
use Rattle.plane.specs.Keys.{key_of}
use Rattle.plane.proofs.Bools.{and-make, xor-false, false-xor}
use Rattle.plane.proofs.Sums.{keep_append, in-only, length-only, only-all, only_none}
use Rattle.plane.proofs.Parity.{odd-none-of, odd-only}
use Rattle.plane.proofs.Rising.{rising-before, rising-rest, only-rising}
use Rattle.plane.proofs.Arrays.{length-flat-points, flat_append}
use Rattle.plane.proofs.Keys.{key-order, range-fits}
use Rattle.plane.proofs.AtStart.{start-part}
use Rattle.rule.specs.Back.{corners, back_list}
use Rattle.rule.specs.Rows.{AcceptedRects}
use Rattle.rule.proofs.Backward.{back-rising, back-alike, back-accepted}
use Rattle.outline.specs.declared.TheConstants.{START, END}
use Rattle.outline.specs.Inner.{keys_of, points_of_keys, climbs_after, climbs, OddOnes, within, Keys, Gathers, Takes, batch_of, IsBatch}
use Rattle.outline.proofs.Keys.{key-within, odd-keys, keys-points}
use Rattle.outline.proofs.Climbs.{climbs-unique}

-- ---- The keys of a batch

-- after a point, keys climb just as their points rise
keys-climb-after : (p : Point) (ps : List Point) → ((q : Point) → In q (p ∷ ps) → point_in_range q ≡ true) → climbs_after (key_of p) (keys_of ps) ≡ rising_after p ps
unfolding climbs_after rising_after
keys-climb-after p [] range = refl
keys-climb-after p (q ∷ ps) range = rw (key-order p q (range-fits p (range p (head refl))) (range-fits q (range q (tail (head refl)))), keys-climb-after q ps (λ r m. range r (tail m)))

-- and so in a list
keys-climb : (ps : List Point) → ((q : Point) → In q ps → point_in_range q ≡ true) → climbs (keys_of ps) ≡ rising ps
unfolding climbs rising
keys-climb [] range = refl
keys-climb (p ∷ ps) range = keys-climb-after p ps range

-- the points of a batch of the answer are in range
batch-range : {rs : List Rect} → AcceptedRects rs → (start end : ℕ) (q : Point) → In q (batch_of start end (back_list rs)) → point_in_range q ≡ true
batch-range {rs} acc start end q m = (back-accepted rs acc).range q (in-only _ (back_list rs) m)

-- keys that climb and have the parity of the corners' keys from a start to below an end are those of the answer's points
batch-keys : (rs : List Rect) → AcceptedRects rs → (start end : ℕ) (ks : List ℕ) → climbs ks ≡ true → ((f : ℕ → Bool) → odd f ks ≡ odd (λ k. within start end k && f k) (keys_of (corners rs))) → ks ≡ keys_of (batch_of start end (back_list rs))
batch-keys rs acc start end ks e h =
    climbs-unique ks (keys_of batch) e (keys-climb batch (batch-range acc start end) ∙ only-rising inside (back_list rs) (back-rising rs)) (λ k.
    h (eqb k)
    ∙ odd-keys (λ j. within start end j && eqb k j) (corners rs)
    ∙ sym ((back-alike rs acc).parity (λ p. inside p && eqb k (key_of p)))
    ∙ sym (odd-only (λ p. eqb k (key_of p)) inside (back_list rs))
    ∙ sym (odd-keys (eqb k) batch))
  where
    inside : Point → Bool
    inside p = within start end (key_of p)

    batch : List Point
    batch = batch_of start end (back_list rs)

-- ---- A batch of the corners, rectangle by rectangle

-- at first nothing has come and nothing is kept
pub gathers-none : (start end : ℕ) (all : List ℕ) → start < end → Gathers start end end all all []
gathers-none start end all h = record { beyond = h; not_beyond = omega arith; parity = λ f. rw odd-none-of (false-xor _) }

-- the keys of the corners from place i on: those of the rectangle there, and the others'
pub keys-next : (rs : List Rect) (i : ℕ) → i < length rs → keys_of (corners (drop i rs)) ≡ keys_of (corners_of (rect_at rs i)) ++ keys_of (corners (drop (i + 1) rs))
unfolding corners
keys-next rs i h =
    let e : drop i rs ≡ rect_at rs i ∷ drop (suc i) rs = drop-cons rs i _ h in
    rw (add-one, e) (map-append key_of (corners_of (rect_at rs i)) (corners (drop (suc i) rs)))

-- the keys of a rectangle's corners are taken, and those of the others are to come
pub gathers-next : {start asked : ℕ} {b c : Keys} {all : List ℕ} {r : Rect} {rs rest : List Rect} → rest ≡ r ∷ rs → b.start ≡ start → Takes (keys_of (corners_of r)) b c → Gathers start asked b.end all (keys_of (corners rest)) b.keys → (c.start ≡ start) × Gathers start asked c.end all (keys_of (corners rs)) c.keys
unfolding corners
gathers-next {asked = asked} {all = all} {r} {rs} e s t g =
    let next = ap (λ l. keys_of (corners l)) e ∙ map-append key_of (corners_of r) (corners rs) in
    (t.start ∙ s, rw (← s) (t.takes asked all (keys_of (corners rs)) (rw s (rw next at g))))

-- once all have come, the keys kept that stand an odd number of times are the batch
pub gathered : {rs : List Rect} {start asked : ℕ} {kept : List ℕ} {b : Keys} → AcceptedRects rs → b.start ≡ start → Gathers start asked b.end (keys_of (corners rs)) [] kept → OddOnes kept b.keys → IsBatch (back_list rs) start asked b
gathered {rs} {start} {b = b} acc s g o =
    record {
      from = s;
      beyond = g.beyond;
      not_beyond = g.not_beyond;
      keys = batch-keys rs acc start b.end b.keys o.climbing (λ f. o.parity f ∙ (rw (odd-none-of, xor-false) at (g.parity f)));
    }

-- ---- Batches one after another

-- a batch has no more points than there are
pub batch-few : (start end : ℕ) (ps : List Point) → length (batch_of start end ps) ≤ length ps
batch-few start end ps = length-only _ ps

-- no key from a batch's end on is of it
within-past : (start mid k : ℕ) → mid ≤ k → within start mid k ≡ false
unfolding within
within-past start mid k h = rw (le-ltb k mid h) (and-false (leb start k))

-- from a key to below it there is nothing
pub batch-none : (k : ℕ) (ps : List Point) → batch_of k k ps ≡ []
unfolding within
batch-none k ps = only_none _ ps (λ p m. go (key_of p) (ltb (key_of p) k) refl)
  where
    go : (j : ℕ) (t : Bool) → ltb j k ≡ t → (leb k j && t) ≡ false
    go j true e = rw (lt-leb k j (ltb-true j k e))
    go j false e = and-false (leb k j)

-- from the first key to the end of all keys there is everything
batch-all : (ps : List Point) → ((q : Point) → In q ps → point_in_range q ≡ true) → batch_of START END ps ≡ ps
unfolding within
batch-all ps range = only-all _ ps (λ p m. let k = key-within p (range p m) in and-make _ _ (le-leb _ (key_of p) k.0) (lt-ltb (key_of p) _ k.1))

module _ (start mid end : ℕ) (first : start ≤ mid) (then : mid ≤ end) where
  -- a key from the second batch's start on is of it just if it is of both in one
  within-second : (k : ℕ) → mid ≤ k → within mid end k ≡ within start end k
  unfolding within
  within-second k h = rw (le-leb mid k h, le-leb start k (omega arith))

  -- a key below is of the first just if it is of both in one, and is not of the second
  within_first : (k : ℕ) → k < mid → (within start mid k ≡ within start end k) × (within mid end k ≡ false)
  unfolding within
  within_first k h = rw (lt-ltb k mid h, lt-ltb k end (omega arith), lt-leb mid k h) (refl, refl)

  -- two batches, one after the other, are one
  batches-join : (ps : List Point) → rising ps ≡ true → ((q : Point) → In q ps → point_in_range q ≡ true) → batch_of start mid ps ++ batch_of mid end ps ≡ batch_of start end ps
  unfolding only rising
  batches-join [] e range = refl
  batches-join (p ∷ ps) e range = go (batches-join ps (rising-rest p ps e) (λ q m. range q (tail m))) (ltb (key_of p) mid) refl
    where
      past : mid ≤ key_of p → batch_of start mid ps ≡ []
      past h = only_none _ ps (λ q m. within-past start mid (key_of q) (let l = ltb-true (key_of p) (key_of q) (key-order p q (range-fits p (range p (head refl))) (range-fits q (range q (tail m))) ∙ rising-before p e m) in omega arith))

      go : batch_of start mid ps ++ batch_of mid end ps ≡ batch_of start end ps → (b : Bool) → ltb (key_of p) mid ≡ b → batch_of start mid (p ∷ ps) ++ batch_of mid end (p ∷ ps) ≡ batch_of start end (p ∷ ps)
      go ih true d = let h = within_first (key_of p) (ltb-true (key_of p) mid d) in rw (h.1, h.0, keep_append, ih)
      go ih false d =
          let h = ltb-false (key_of p) mid d in
          rw (within-past start mid (key_of p) h, within-second (key_of p) h, past h, rw (past h) at ih)

-- ---- The answer batch by batch

module _ {rs : List Rect} (acc : AcceptedRects rs) where
  -- up to the end of all keys there is the whole answer
  pub answer-all : batch_of START END (back_list rs) ≡ back_list rs
  answer-all = batch-all (back_list rs) (back-accepted rs acc).range

  -- the batch that follows those before the start
  module _ {start asked : ℕ} {b : Keys} (from : START ≤ start) (t : IsBatch (back_list rs) start asked b) where
    -- with it there are all before its end
    batch-joins : batch_of START start (back_list rs) ++ batch_of start b.end (back_list rs) ≡ batch_of START b.end (back_list rs)
    batch-joins = batches-join START start b.end from (omega (arith, t.beyond)) (back_list rs) (back-rising rs) (back-accepted rs acc).range

    -- so many are listed with it
    pub batch-listed : {listed : ℕ} → listed ≡ length (batch_of START start (back_list rs)) → listed + length b.keys ≡ length (batch_of START b.end (back_list rs))
    batch-listed e =
        let batch : List Point = batch_of start b.end (back_list rs) in
        omega (arith, length-append (batch_of START start (back_list rs)) batch, ap length batch-joins, ap length t.keys, length-map batch key_of)

    -- its points, written into the part after those before, are written after them
    pub batch-written :
        (out : List ℤ) {listed : ℕ} {points part : List ℤ} → listed ≡ length (batch_of START start (back_list rs)) →
        points ≡ at_start (flat_points (batch_of START start (back_list rs))) out →
        let n = length points - 2 * listed in
        part ≡ at_start (flat_points (points_of_keys b.keys)) (take n (drop (2 * listed) points)) →
        take (2 * listed) points ++ (part ++ drop n (drop (2 * listed) points)) ≡ at_start (flat_points (batch_of START b.end (back_list rs))) out
    batch-written out {listed} e w p =
        let before : List Point = batch_of START start (back_list rs) in
        let batch : List Point = batch_of start b.end (back_list rs) in
        rw (p, t.keys, keys-points batch (batch-range acc start b.end), w, ← batch-joins, flat_append before batch)
        (start-part (flat_points before) (flat_points batch) out (2 * listed) (omega (arith, length-flat-points before)))
