-- Of whatever meets the contract of number_of: the number that bytes read as is answered, and none is refused.
use mathlib.Core.Path.{◌≡◌, refl}
use mathlib.Core.Logic.{◌↔◌}
use Prim.Native.Nat.{ℕ}
use mathlib.Core.List.{List, [], ◌∷◌}
use Rattle.std.specs.Prelude.{Option, None, Some}
use lib.IntN.{ℤ}
use Rattle.numerals.specs.Numerals.{number_of, numeral_number, numeral_values}

module _ (bytes : List ℕ) {r : Option ℤ} (d : r ≡ number_of bytes) where
  -- answer 0 with a number exactly when the bytes read as that number
  pub number_read : (z : ℤ) → ((numeral_number r ≡ 0) × (numeral_values r ≡ z ∷ [])) ↔ (number_of bytes ≡ Some z)
  number_read z = rw d (go (number_of bytes))
    where
      go : (o : Option ℤ) → ((numeral_number o ≡ 0) × (numeral_values o ≡ z ∷ [])) ↔ (o ≡ Some z)
      go None = (λ e. cc e.0, λ e. (cc e, cc e))
      go (Some y) = (λ e. cc, λ e. (refl, cc))

  -- TEXT exactly when they read as none
  pub none_read : (numeral_number r ≡ 11) ↔ (number_of bytes ≡ None)
  none_read = rw d (go (number_of bytes))
    where
      go : (o : Option ℤ) → (numeral_number o ≡ 11) ↔ (o ≡ None)
      go None = (λ e. refl, λ e. refl)
      go (Some y) = (λ e. cc, λ e. cc)
