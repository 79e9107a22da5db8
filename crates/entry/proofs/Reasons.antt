-- The numbers of reasons: each is above 0, which is the answer where nothing is refused, and tells its reason.
use Prim.Native.Nat.{ℕ, ◌≤◌}
use mathlib.Core.Path.{◌≡◌, refl, sym, ap, ◌∙◌}
use Rattle.std.specs.Prelude.{Result, Ok, Err}
use Rattle.std.specs.Result.{IsErrAnd}
use mathlib.Core.Bool.{false}
use mathlib.Core.List.{List, [], ◌∷◌}
use lib.ListN.{get_or}
use lib.Dec.{eqb}
use borrow.Author.Tests.{ne_eqb}
use native.Mathlib.Omega.{arith}
use Rattle.entry.specs.declared.Reason.{Reason}
use Rattle.entry.specs.declared.Reason.TheVariants.{Length, Many, Work, Range, Repeated, Row, Column, Room, Flat, Drained, Text, Truncated, Record, Open, Slanted, Absent, Overlap}
use Rattle.entry.specs.declared.Refusal.{Refusal}
use Rattle.entry.specs.Refusals.{number_of}
use Rattle.entry.specs.Entry.{told}

pub number-above : (r : Reason) → 1 ≤ number_of r
number-above Length = omega arith
number-above Many = omega arith
number-above Work = omega arith
number-above Range = omega arith
number-above Repeated = omega arith
number-above Row = omega arith
number-above Column = omega arith
number-above Room = omega arith
number-above Flat = omega arith
number-above Drained = omega arith
number-above Text = omega arith
number-above Truncated = omega arith
number-above Record = omega arith
number-above Open = omega arith
number-above Slanted = omega arith
number-above Absent = omega arith
number-above Overlap = omega arith

-- and at most 17
pub number-few : (r : Reason) → number_of r ≤ 17
number-few Length = omega arith
number-few Many = omega arith
number-few Work = omega arith
number-few Range = omega arith
number-few Repeated = omega arith
number-few Row = omega arith
number-few Column = omega arith
number-few Room = omega arith
number-few Flat = omega arith
number-few Drained = omega arith
number-few Text = omega arith
number-few Truncated = omega arith
number-few Record = omega arith
number-few Open = omega arith
number-few Slanted = omega arith
number-few Absent = omega arith
number-few Overlap = omega arith

-- the reasons by their numbers
reasons : List Reason
reasons = Length ∷ Length ∷ Many ∷ Work ∷ Range ∷ Repeated ∷ Row ∷ Column ∷ Room ∷ Flat ∷ Drained ∷ Text ∷ Truncated ∷ Record ∷ Open ∷ Slanted ∷ Absent ∷ Overlap ∷ []

-- a number tells its reason
number-tells : (r : Reason) → get_or reasons (number_of r) Length ≡ r
unfolding reasons
number-tells Length = refl
number-tells Many = refl
number-tells Work = refl
number-tells Range = refl
number-tells Repeated = refl
number-tells Row = refl
number-tells Column = refl
number-tells Room = refl
number-tells Flat = refl
number-tells Drained = refl
number-tells Text = refl
number-tells Truncated = refl
number-tells Record = refl
number-tells Open = refl
number-tells Slanted = refl
number-tells Absent = refl
number-tells Overlap = refl

-- so two reasons with one number are one
number-apart : (r s : Reason) → number_of r ≡ number_of s → r ≡ s
number-apart r s e = sym (number-tells r) ∙ ap (λ k. get_or reasons k Length) e ∙ number-tells s

-- and another reason has another number
pub number-other : (r s : Reason) → (r ≡ s → ⊥) → eqb (number_of r) (number_of s) ≡ false
number-other r s n = ne_eqb (number_of r) (number_of s) (λ e. n (number-apart r s e))

-- no reason has the number 0
pub number-some : (r : Reason) → number_of r ≡ 0 → ⊥
number-some r e = absurd (omega (arith, number-above r))

-- ---- The answer that a result tells

-- a refusal is its number and its place
pub refusal-apart : (e f : Refusal) → number_of e.reason ≡ number_of f.reason → e.place ≡ f.place → e ≡ f
refusal-apart e f n p = λ i. record { reason = number-apart e.reason f.reason n i; place = p i }

-- two results that tell the same answer are the same
pub told-apart : (r s : Result ℕ Refusal) → told r ≡ told s → r ≡ s
told-apart (Ok n) (Ok m) d = ap Ok (λ i. (d i).count)
told-apart (Ok n) (Err f) d = absurd (number-some f.reason (sym (λ i. (d i).answer)))
told-apart (Err e) (Ok m) d = absurd (number-some e.reason (λ i. (d i).answer))
told-apart (Err e) (Err f) d = ap Err (refusal-apart e f (λ i. (d i).answer) (λ i. (d i).place))

-- ---- What `?` passes up

-- an error that is passed up is the one that was met
pub passed-up : {T E : Type 0} (r : Result T E) (e : E) → IsErrAnd r (λ x. x ≡ e) → r ≡ Err e
passed-up (Ok x) e h = absurd h
passed-up (Err x) e h = ap Err h
