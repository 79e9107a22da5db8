-- What a check is, of any table of refusals: its number, when it is given and at which place, and what checks in order say.
use Rattle.std.specs.Prelude.{ℕ, zero, suc, ◌<◌, ◌≡◌, Bool, true, false, cond, List, [], ◌∷◌, ltb}

-- nothing is refused, or a refusal with its number and its place
pub data Verdict : Type 0 where
  accepted : Verdict
  refused : (number place : ℕ) → Verdict

-- ---- A check: a row of the table, asked of an input

-- the whole offends, at a place that is told; or some of so many items do, each at its own place; or items are met one after another, and what is
-- said of each brings the number and the place of its fault
pub data Check : Type 0 where
  whole : (number place : ℕ) (offends : Bool) → Check
  each : (number items : ℕ) (offends : ℕ → Bool) → Check
  met : (says : List Verdict) → Check

-- of items that are met one after another, the first fault has this number and this place
pub data FirstMet : List Verdict → (number place : ℕ) → Type 0 where
  here : {k p : ℕ} {says : List Verdict} → FirstMet (refused k p ∷ says) k p
  next : {k p : ℕ} {says : List Verdict} → FirstMet says k p → FirstMet (accepted ∷ says) k p

-- the row with a number is given at a place: that of the whole, that of the first item that offends, or what the first fault met says
pub data Given : Check → (number place : ℕ) → Type 0 where
  by_whole : {k p : ℕ} {t : Bool} → t ≡ true → Given (whole k p t) k p
  by-item : {k n : ℕ} {t : ℕ → Bool} (i : ℕ) → i < n → t i ≡ true → ((j : ℕ) → j < i → t j ≡ false) → Given (each k n t) k i
  by-fault : {says : List Verdict} {k p : ℕ} → FirstMet says k p → Given (met says) k p

-- of checks in order, row k is given at place p, and no earlier one is given
pub data FirstGiven : List Check → (k p : ℕ) → Type 0 where
  this : {c : Check} {checks : List Check} {k p : ℕ} → Given c k p → FirstGiven (c ∷ checks) k p
  later : {c : Check} {checks : List Check} {k p : ℕ} → ((j q : ℕ) → Given c j q → ⊥) → FirstGiven checks k p → FirstGiven (c ∷ checks) k p

-- the numbers of checks in their order; a check of items that bring their own has none to tell
unfoldable pub numbers_of : List Check → List ℕ
numbers_of [] = []
numbers_of (whole k p t ∷ checks) = k ∷ numbers_of checks
numbers_of (each k n t ∷ checks) = k ∷ numbers_of checks
numbers_of (met says ∷ checks) = numbers_of checks

-- ---- A result that needs more than the room

-- at the number needed
abbrev pub needs : (number needed room : ℕ) → Check
needs k n r = whole k n (ltb r n)

-- the greatest place that is told, 2^63 - 1
abbrev pub most_place : ℕ
most_place = 9_223_372_036_854_775_807

-- a number up to the greatest place, and that for any number above it
unfoldable pub saturated : ℕ → ℕ
saturated n = cond (ltb most_place n) most_place n

-- where the number needed may be above every place
abbrev pub needs_much : (number needed room : ℕ) → Check
needs_much k n r = whole k (saturated n) (ltb r n)

-- ---- The answer to checks in order

-- a refusal, or else what comes later
abbrev pub or_later : Verdict → Verdict → Verdict
or_later accepted rest = rest
or_later (refused k p) rest = refused k p

-- the first of n numbers from i on that passes a test, and the next one after them where none does
unfoldable pub first_from : (i n : ℕ) → (ℕ → Bool) → ℕ
first_from i zero t = i
first_from i (suc n) t = cond (t i) i (first_from (suc i) n t)

-- the first of n places that offends, and n where none does
abbrev pub first_bad : (n : ℕ) → (ℕ → Bool) → ℕ
first_bad n t = first_from 0 n t

-- the first refusal of what is said
unfoldable pub first_said : List Verdict → Verdict
first_said [] = accepted
first_said (v ∷ says) = or_later v (first_said says)

-- what a check says by itself
unfoldable pub judged : Check → Verdict
judged (whole k p t) = cond t (refused k p) accepted
judged (each k n t) = cond (ltb (first_bad n t) n) (refused k (first_bad n t)) accepted
judged (met says) = first_said says

-- each check runs over the whole input before the next one starts
unfoldable pub verdict : List Check → Verdict
verdict [] = accepted
verdict (c ∷ checks) = or_later (judged c) (verdict checks)
