-- What an entry point answers and leaves, of what its checks say, and what that comes to for its caller.
use Rattle.std.specs.Prelude.{ℕ, suc, ◌≡◌, ◌≢◌, ◌↔◌, List, length, Result, Ok, Err}
use Rattle.plane.specs.Lists.{at_start, Starts}
use Rattle.entry.specs.declared.Counted.{Counted as Answered}
use Rattle.entry.specs.declared.Refusal.{Refusal}
use Rattle.entry.specs.Checks.{Check, FirstGiven, Verdict, accepted, refused, verdict}
use Rattle.entry.specs.Refusals.{number_of}

-- one thing where nothing is refused, and another on a refusal
abbrev pub if_accepted : {A : Type 0} → Verdict → (then else : A) → A
if_accepted accepted then else = then
if_accepted (refused k p) then else = else

-- ---- The answer

-- its number, 0 where nothing is refused
abbrev pub number_in : Verdict → ℕ
number_in accepted = 0
number_in (refused k p) = k

-- its place, 0 where nothing is refused
abbrev pub place_in : Verdict → ℕ
place_in accepted = 0
place_in (refused k p) = p

-- what one that counts answers, as the code has it: answer, place and count
abbrev pub Counted : Type 0
Counted = Answered

-- the answer that a result tells: with a count 0 and place 0, and with a refusal its number and place
abbrev pub told : Result ℕ Refusal → Counted
told (Ok n) = record { answer = 0; place = 0; count = n }
told (Err e) = record { answer = number_of e.reason; place = e.place; count = 0 }

-- answer, place and count, which is 0 on a refusal
abbrev pub counted : Verdict → (count : ℕ) → Counted
counted v n = record { answer = number_in v; place = place_in v; count = if_accepted v n 0 }

-- ---- Lent arrays

-- an output: the result at its start and otherwise unchanged; on a refusal unchanged
abbrev pub written : {A : Type 0} → Verdict → (result out : List A) → List A
written v result out = if_accepted v (at_start result out) out

-- ---- The contract of an entry point that counts what it writes to one output

-- of its checks, the count and the result: the answer, and the output afterwards
pub record Done {A : Type 0} (checks : List Check) (count : ℕ) (result out : List A) (r : Counted) (out-after : List A) : Type 0 where
  pub answer : r ≡ counted (verdict checks) count
  pub output : out-after ≡ written (verdict checks) result out

-- ---- What every entry point keeps

-- an answer's number and place are what the checks give: a refusal exactly when its row is given there and no earlier row is given; and with 0,
-- which comes exactly when no row is given, the place is 0
pub record Answers (checks : List Check) (number place : ℕ) : Type 0 where
  pub refused-exactly-when : (k p : ℕ) → ((number ≡ suc k) × (place ≡ p)) ↔ FirstGiven checks (suc k) p
  pub done-exactly-when : (number ≡ 0) ↔ ((k p : ℕ) → FirstGiven checks k p → ⊥)
  pub done-place : number ≡ 0 → place ≡ 0

-- an output is untouched on a refusal; with 0 it begins with the result and is otherwise unchanged; and its length stays
pub record Leaves {A : Type 0} (number : ℕ) (result out out-after : List A) : Type 0 where
  pub refused-untouched : number ≢ 0 → out-after ≡ out
  pub done-starts : number ≡ 0 → Starts result out out-after
  pub length-kept : length out-after ≡ length out

-- both, of one that counts: its count is 0 on a refusal
pub record Kept {A : Type 0} (checks : List Check) (count : ℕ) (result out : List A) (r : Counted) (out-after : List A) : Type 0 where
  pub answers : Answers checks r.answer r.place
  pub leaves : Leaves r.answer result out out-after
  pub refused-count : r.answer ≢ 0 → r.count ≡ 0
  pub done-count : r.answer ≡ 0 → r.count ≡ count
