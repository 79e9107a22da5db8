-- Small tables, worked out: of items that bring their own number and place the first fault met wins; and a need is told up to 2^63 - 1.
use mathlib.Core.Path.{◌≡◌, refl}
use mathlib.Core.Bool.{Bool, true}
use mathlib.Core.List.{List, [], ◌∷◌}
use Rattle.entry.specs.Checks.{Check, whole, met, needs, needs_much, saturated, first_said, Verdict, accepted, refused, judged, verdict}

-- three records, of which the last two may have faults, and then a check of the whole
abbrev stream : (second third : Verdict) (offends : Bool) → List Check
stream second third offends = met (accepted ∷ second ∷ third ∷ []) ∷ whole 16 0 offends ∷ []

-- the fault of the earlier record, whatever its number
pub earlier-fault : verdict (stream (refused 13 6) (refused 12 34) true) ≡ refused 13 6
unfolding first_said judged verdict
earlier-fault = refl

-- with no fault met, what comes later
pub no-fault : verdict (stream accepted accepted true) ≡ refused 16 0
unfolding first_said judged verdict
no-fault = refl

-- a need that is above every place, and two that are not
pub above-all : verdict (needs_much 8 12_000_000_000_000_000_000 5 ∷ []) ≡ refused 8 9_223_372_036_854_775_807
unfolding saturated judged verdict
above-all = refl

pub told : verdict (needs_much 8 7 5 ∷ []) ≡ verdict (needs 8 7 5 ∷ [])
unfolding saturated judged verdict
told = refl

pub enough-room : verdict (needs_much 8 5 5 ∷ []) ≡ accepted
unfolding saturated judged verdict
enough-room = refl
