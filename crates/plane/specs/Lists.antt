-- Words on lists and sums that document 01 uses without saying so: any, how many, an odd number, the sum; and on lent arrays: at the start, and at a place.
use Rattle.std.specs.Prelude.{ℕ, zero, suc, ◌+◌, ◌≡◌, Bool, true, false, cond, ◌||◌, List, [], ◌∷◌, ◌++◌, length, take, drop, leb}
use Rattle.std.specs.Bool.{xor}

-- 1 for true, 0 for false
abbrev pub bit : Bool → ℕ
bit true = 1
bit false = 0

module _ {A : Type 0} where
  -- whether some element passes a test
  unfoldable pub any : (A → Bool) → List A → Bool
  any f [] = false
  any f (a ∷ l) = f a || any f l

  -- how many elements pass a test
  unfoldable pub count : (A → Bool) → List A → ℕ
  count f [] = 0
  count f (a ∷ l) = cond (f a) (suc (count f l)) (count f l)

  -- whether an odd number of elements pass a test
  unfoldable pub odd : (A → Bool) → List A → Bool
  odd f [] = false
  odd f (a ∷ l) = xor (f a) (odd f l)

  -- the sum of a weight over the elements
  unfoldable pub sum : (A → ℕ) → List A → ℕ
  sum w [] = 0
  sum w (a ∷ l) = w a + sum w l

  -- an element before a list, if it passed
  abbrev pub keep : Bool → A → List A → List A
  keep true a l = a ∷ l
  keep false a l = l

  -- the elements that pass a test
  unfoldable pub only : (A → Bool) → List A → List A
  only f [] = []
  only f (a ∷ l) = keep (f a) a (only f l)

  -- an array afterwards: these at its start, and otherwise unchanged
  abbrev pub at_start : (items before : List A) → List A
  at_start items before = items ++ drop (length items) before

  -- an array has room for items from a place on
  abbrev pub has_room : (before : List A) (at : ℕ) (items : List A) → Bool
  has_room before at items = leb (at + length items) (length before)

  -- items put over an array's from a place on
  abbrev pub pasted : (before : List A) (at : ℕ) (items : List A) → List A
  pasted before at items = take at before ++ at_start items (drop at before)

  -- an array with items from a place on; without room it stays as it is
  unfoldable pub put_at : (before : List A) (at : ℕ) (items : List A) → List A
  put_at before at items = cond (has_room before at items) (pasted before at items) before

  -- afterwards an array begins with these, and past them it is as it was
  pub record Starts (items before after : List A) : Type 0 where
    pub start : take (length items) after ≡ items
    pub rest : drop (length items) after ≡ drop (length items) before

-- the sum of a weight over the numbers below n
unfoldable pub sum_below : ℕ → (ℕ → ℕ) → ℕ
sum_below zero w = 0
sum_below (suc n) w = w n + sum_below n w
