-- Laws of cells: a rectangle's corners mark just the cells that it holds.
use mathlib.Core.Path.{◌≡◌, refl}
use mathlib.Core.Bool.{Bool, true, false, not, ◌&&◌, xor, false≢true}
use lib.IntN.{ℤ}
use lib.Signed.{le_z, lt_z}
use Rattle.plane.specs.Words.{under}
use Rattle.plane.proofs.Order.{order}

-- less is not at least
lt_z-not : (a b : ℤ) → lt_z a b ≡ not (le_z b a)
lt_z-not a b = go (le_z b a) refl
  where
    go : (c : Bool) → le_z b a ≡ c → lt_z a b ≡ not c
    go true e = omega order
    go false e = omega order

-- the four corners at or below a cell, where A and B are the near sides and C and D the far sides
sides-parity : (A B C D : Bool) → (C ≡ true → A ≡ true) → (D ≡ true → B ≡ true) → xor (A && B) (xor (C && B) (xor (A && D) (C && D))) ≡ ((A && not C) && (B && not D))
unfolding xor
sides-parity true true true true f g = refl
sides-parity true true true false f g = refl
sides-parity true true false true f g = refl
sides-parity true true false false f g = refl
sides-parity true false C true f g = absurd (false≢true (g refl))
sides-parity true false true false f g = refl
sides-parity true false false false f g = refl
sides-parity false B true D f g = absurd (false≢true (f refl))
sides-parity false true false true f g = refl
sides-parity false true false false f g = refl
sides-parity false false false true f g = refl
sides-parity false false false false f g = refl

-- an odd number of the corners (x, y), (x', y), (x, y'), (x', y') are under a cell exactly when it lies between them
pub corners-under : (a b x y x' y' : ℤ) → le_z x x' ≡ true → le_z y y' ≡ true → xor (under a b (record { x = x; y = y })) (xor (under a b (record { x = x'; y = y })) (xor (under a b (record { x = x; y = y' })) (under a b (record { x = x'; y = y' })))) ≡ ((le_z x a && lt_z a x') && (le_z y b && lt_z b y'))
unfolding under
corners-under a b x y x' y' h v = rw (lt_z-not a x', lt_z-not b y') (sides-parity (le_z x a) (le_z y b) (le_z x' a) (le_z y' b) (λ e. omega order) (λ e. omega order))
