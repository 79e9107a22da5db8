-- Names compared without padding.
use mathlib.Core.Path.{◌≡◌, refl, sym, ap, ap₂, ◌∙◌}
use mathlib.Core.Bool.{Bool, true, false, ◌&&◌, and-true}
use mathlib.Core.List.{List, [], ◌∷◌}
use Prim.Native.Nat.{ℕ, suc, min}
use lib.ListN.{length, take, drop}
use lib.Dec.{eqb}
use lib.Pointwise.{pointwise}
use borrow.Author.Tests.{eqb-true, eqb-false, eq-eqb, ne_eqb}
use Rattle.std.specs.List.{list_all}
use Rattle.std.proofs.Math.Nat.{suc-min-suc, zero-min, min-zero}
use Rattle.gdsii.specs.Walk.{same_name}

-- bytes that are all NUL
abbrev padding : List ℕ → Bool
padding cs = list_all (λ c. eqb c 0) cs

eqb-swap : (m n : ℕ) → eqb m n ≡ eqb n m
eqb-swap m n = go (eqb m n) refl
  where
    go : (t : Bool) → eqb m n ≡ t → eqb m n ≡ eqb n m
    go true e = let d = eqb-true m n e in e ∙ sym (eq-eqb n m (sym d))
    go false e = e ∙ sym (ne_eqb n m (λ d. eqb-false m n e (sym d)))

-- are the same as no name, on either side
padding-right : (cs : List ℕ) → padding cs ≡ same_name cs []
unfolding same_name
padding-right [] = refl
padding-right (c ∷ cs) = ap (λ (t : Bool). eqb c 0 && t) (padding-right cs)

padding-left : (cs : List ℕ) → padding cs ≡ same_name [] cs
unfolding same_name
padding-left [] = refl
padding-left (c ∷ cs) = ap₂ ◌&&◌ (eqb-swap c 0) (padding-left cs)

and-assoc : (s t u v : Bool) → (((s && t) && u) && v) ≡ (s && ((t && u) && v))
and-assoc true t u v = refl
and-assoc false t u v = refl

-- names are the same where they agree as far as both go, and what is left of either is padding
pub same-unpadded : (a b : List ℕ) → let n = min (length a) (length b) in ((pointwise eqb (take n a) (take n b) && padding (drop n a)) && padding (drop n b)) ≡ same_name a b
unfolding same_name
same-unpadded [] [] = refl
same-unpadded [] (c ∷ cs) = rw (zero-min (suc (length cs))) (padding-left (c ∷ cs))
same-unpadded (b ∷ bs) [] = rw (min-zero (suc (length bs))) (and-true _ ∙ padding-right (b ∷ bs))
same-unpadded (b ∷ bs) (c ∷ cs) =
    rw (suc-min-suc (length bs) (length cs)) (and-assoc (eqb b c) _ _ _ ∙ ap (λ (t : Bool). eqb b c && t) (same-unpadded bs cs))
