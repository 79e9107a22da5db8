-- What the library's least and greatest of points are, in the words of the rule: the first that passes a test, and one of the highest row.
use mathlib.Core.Path.{◌≡◌, refl, sym, ap, ◌∙◌}
use mathlib.Core.Bool.{Bool, true, false, cond}
use mathlib.Core.List.Memᴰ.{head}
use mathlib.Core.List.Memᴰ.{tail}
use mathlib.Core.List.{List, [], ◌∷◌, Memᴰ as In}
use mathlib.Core.Option
use Rattle.std.specs.Prelude.{Option as Found, Some, None, filter, MatchOption}
use Rattle.std.specs.Option.{unwrap_or, UnwrapsOrElse}
use Rattle.std.specs.List.{fold, reduce}
use Rattle.std.specs.Ordering.{is_gt, min_by_ordering, max_by_ordering}
use Rattle.std.specs.declared.cmp.Ordering.{Ordering}
use Rattle.std.specs.declared.cmp.Ordering.TheVariants.{Less, Equal, Greater}
use mathlib.Core.Logic.{◌⊎◌, inl, inr}
use lib.Signed.{le_z, lt_z}
use Rattle.plane.specs.declared.Point.{Point}
use Rattle.plane.specs.Words.{before}
use Rattle.plane.proofs.Order.{order}
use Rattle.plane.proofs.Points.{after-row, after-no, after-yes}
use Rattle.rule.specs.Rule.{first_in, earlier, IsFirst}
use Rattle.rule.proofs.Picks.{earlier-assoc, first_found}
use Rattle.panbuckle.specs.Inner.{IsHighest}

-- what is found, or else what is as a default
pub or-default : {A : Type 0} {P : A → Type 0} (o : Found A) {d r : A} → ((a : A) → P a → a ≡ d) → UnwrapsOrElse o P r → r ≡ unwrap_or o d
or-default None h e = h _ e
or-default (Some a) h e = e

-- all points pass a test that always does
filter-all : (ps : List Point) → filter (λ p. true) ps ≡ ps
filter-all [] = refl
filter-all (p ∷ ps) = ap (λ (l : List Point). p ∷ l) (filter-all ps)

-- a point not above the first of others changes nothing, as one that is not below
highest-also : {p q h : Point} {ps : List Point} → IsHighest (p ∷ ps) h → le_z q.y p.y ≡ true → IsHighest (p ∷ q ∷ ps) h
highest-also {p} {q} {h} {ps} t e = record { within = inside t.within; none_above = none }
  where
    inside : {r : Point} → In r (p ∷ ps) → In r (p ∷ q ∷ ps)
    inside (head d) = head d
    inside (tail m) = tail (tail m)

    none : (r : Point) → In r (p ∷ q ∷ ps) → lt_z h.y r.y ≡ false
    none r (head d) = t.none_above r (head d)
    none r (tail (head d)) = let f = t.none_above p (head refl) in rw d (omega order)
    none r (tail (tail m)) = t.none_above r (tail m)

highest-front : {p q h : Point} {ps : List Point} → IsHighest (q ∷ ps) h → le_z p.y q.y ≡ true → IsHighest (p ∷ q ∷ ps) h
highest-front {p} {q} {h} {ps} t e = record { within = tail t.within; none_above = none }
  where
    none : (r : Point) → In r (p ∷ q ∷ ps) → lt_z h.y r.y ≡ false
    none r (head d) = let f = t.none_above q (head refl) in rw d (omega order)
    none r (tail m) = t.none_above r m

-- of an order that says when one point comes before another
module _ (cmp : Point → Point → Ordering) (is : (p q : Point) → is_gt (cmp p q) ≡ before q p) where
  -- the lesser of two is the earlier
  lesser : (p q : Point) → min_by_ordering (cmp p q) p q ≡ earlier p (Option.some q)
  lesser p q = rw (← is p q) (go (cmp p q))
    where
      go : (o : Ordering) → min_by_ordering o p q ≡ cond (is_gt o) q p
      go Less = refl
      go Equal = refl
      go Greater = refl

  abbrev least : Point → Point → Point
  least p q = min_by_ordering (cmp p q) p q

  -- the least of a point and those that pass is the earliest of it and the first
  least-after : (t : Point → Bool) (p : Point) (ps : List Point) → fold least p (filter t ps) ≡ earlier p (first_in t ps)
  unfolding first_in
  least-after t p [] = refl
  least-after t p (q ∷ ps) = go (t q) (least-after t (least p q) ps) (least-after t p ps)
    where
      go : (b : Bool) → fold least (least p q) (filter t ps) ≡ earlier (least p q) (first_in t ps) → fold least p (filter t ps) ≡ earlier p (first_in t ps) → fold least p (cond b (q ∷ filter t ps) (filter t ps)) ≡ earlier p (Rattle.rule.specs.Rule.or_found b q (first_in t ps))
      go true e d = e ∙ rw (lesser p q) (earlier-assoc p q (first_in t ps))
      go false e d = d

  -- the least of those that pass is the first
  pub least-first : (t : Point → Bool) (ps : List Point) (d : Point) → unwrap_or (reduce least (filter t ps)) d ≡ Option.get_or (first_in t ps) d
  unfolding first_in
  least-first t [] d = refl
  least-first t (p ∷ ps) d = go (t p) (least-after t p ps) (least-first t ps d)
    where
      go : (b : Bool) → fold least p (filter t ps) ≡ earlier p (first_in t ps) → unwrap_or (reduce least (filter t ps)) d ≡ Option.get_or (first_in t ps) d → unwrap_or (reduce least (cond b (p ∷ filter t ps) (filter t ps))) d ≡ Option.get_or (Rattle.rule.specs.Rule.or_found b p (first_in t ps)) d
      go true e i = e
      go false e i = i

  pub least-of-all : (ps : List Point) (d : Point) → unwrap_or (reduce least ps) d ≡ Option.get_or (first_in (λ p. true) ps) d
  least-of-all ps d = rw (filter-all ps) at (least-first (λ p. true) ps d)

  -- of points the least, if there are any, is the first
  pub least-is-first : (ps : List Point) {r : _} → r ≡ reduce least ps → MatchOption r (ps ≡ []) (λ p. IsFirst (λ q. true) ps p)
  least-is-first [] e = rw e refl
  least-is-first (p ∷ ps) e = rw e (rw (sym (least-of-all (p ∷ ps) p)) at (first_found (λ q. true) (p ∷ ps) p (head refl) refl))

  -- the greater of two is not below the other
  abbrev greatest : Point → Point → Point
  greatest p q = max_by_ordering (cmp p q) p q

  greater : (p q : Point) → ((greatest p q ≡ p) × (le_z q.y p.y ≡ true)) ⊎ ((greatest p q ≡ q) × (le_z p.y q.y ≡ true))
  greater p q = go (cmp p q) (is p q)
    where
      go : (o : Ordering) → is_gt o ≡ before q p → ((max_by_ordering o p q ≡ p) × (le_z q.y p.y ≡ true)) ⊎ ((max_by_ordering o p q ≡ q) × (le_z p.y q.y ≡ true))
      go Less e = inr (refl, after-row (after-no q p (sym e)))
      go Equal e = inr (refl, after-row (after-no q p (sym e)))
      go Greater e = inl (refl, after-row (after-yes q p (sym e)))

  -- the greatest of points is on their highest row
  greatest-after : (p : Point) (ps : List Point) → IsHighest (p ∷ ps) (fold greatest p ps)
  greatest-after p [] = record { within = head refl; none_above = alone }
    where
      alone : (q : Point) → In q (p ∷ []) → lt_z p.y q.y ≡ false
      alone q (head e) = rw e (omega order)
      alone q (tail m) = elim m [ ]
  greatest-after p (q ∷ ps) = go (greater p q) (greatest-after (greatest p q) ps)
    where
      go : {h : Point} → ((greatest p q ≡ p) × (le_z q.y p.y ≡ true)) ⊎ ((greatest p q ≡ q) × (le_z p.y q.y ≡ true)) → IsHighest (greatest p q ∷ ps) h → IsHighest (p ∷ q ∷ ps) h
      go (inl e) h = highest-also (rw e.0 at h) e.1
      go (inr e) h = highest-front (rw e.0 at h) e.1

  -- so the greatest, if there are any, is one of the highest row
  pub greatest-is-highest : (ps : List Point) {r : _} → r ≡ reduce greatest ps → MatchOption r (ps ≡ []) (IsHighest ps)
  greatest-is-highest [] e = rw e refl
  greatest-is-highest (p ∷ ps) e = rw e (greatest-after p ps)
