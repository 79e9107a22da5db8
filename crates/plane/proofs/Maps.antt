-- Laws of `map`: the image at a place, a place stored to, sums, what holds of the images, and a map undone by another.
use mathlib.Core.Path.{◌≡◌, refl, sym, ap, ap₂, subst}
use Prim.Native.Nat.{ℕ, zero, suc, ◌+◌, ◌<◌}
use native.Mathlib.Omega.{arith}
use mathlib.Core.Bool.{Bool, ◌||◌}
use mathlib.Core.List.Memᴰ.{head}
use mathlib.Core.List.Memᴰ.{tail}
use mathlib.Core.List.{List, [], ◌∷◌, map, Memᴰ as In}
use lib.ListN.{length, get_or}
use Rattle.plane.specs.Lists.{any, sum}

module _ {A B : Type 0} where
  -- the image at a place
  pub map_at : (f : A → B) (l : List A) (i : ℕ) (d : A) (e : B) → i < length l → get_or (map f l) i e ≡ f (get_or l i d)
  map_at f [] i d e h = absurd (omega arith)
  map_at f (a ∷ l) zero d e h = refl
  map_at f (a ∷ l) (suc i) d e h = map_at f l i d e (omega arith)

  -- a weight summed over the images
  pub sum-map : (w : B → ℕ) (f : A → B) (l : List A) → sum w (map f l) ≡ sum (λ a. w (f a)) l
  unfolding sum
  sum-map w f [] = refl
  sum-map w f (a ∷ l) = ap (λ n. w (f a) + n) (sum-map w f l)

  -- some image passes a test
  pub any-map : (t : B → Bool) (f : A → B) (l : List A) → any t (map f l) ≡ any (λ a. t (f a)) l
  unfolding any
  any-map t f [] = refl
  any-map t f (a ∷ l) = ap (λ b. t (f a) || b) (any-map t f l)

  -- what holds of each image holds of all
  pub map-all : (P : B → Type 0) (f : A → B) (l : List A) → ((a : A) → In a l → P (f a)) → (b : B) → In b (map f l) → P b
  map-all P f [] h b m = elim m [ ]
  map-all P f (a ∷ l) h b (head e) = subst P (sym e) (h a (head refl))
  map-all P f (a ∷ l) h b (tail m) = map-all P f l (λ c n. h c (tail n)) b m

  -- an element's image is one of the images
  pub map-in : (f : A → B) {a : A} {l : List A} → In a l → In (f a) (map f l)
  map-in f {l = []} m = elim m [ ]
  map-in f {l = b ∷ l} (head e) = head (ap f e)
  map-in f {l = b ∷ l} (tail m) = tail (map-in f m)

  -- a map that takes each image back gives the list back
  pub map_back : (f : A → B) (g : B → A) (l : List A) → ((a : A) → In a l → g (f a) ≡ a) → map g (map f l) ≡ l
  map_back f g [] h = refl
  map_back f g (a ∷ l) h = ap₂ ◌∷◌ (h a (head refl)) (map_back f g l (λ b m. h b (tail m)))
