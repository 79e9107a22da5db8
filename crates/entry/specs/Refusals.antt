-- The numbers of the refusals, as documents 01 and 02 have them.
use Rattle.std.specs.Prelude.{ℕ, ◌≡◌, ◌<◌, ◌⊎◌, List, ◌++◌, Result, MatchResult, codes, decimal}
use Rattle.entry.specs.declared.Reason.{Reason}
use Rattle.entry.specs.declared.Refusal.{Refusal}
use Rattle.entry.specs.declared.UnknownReason.{UnknownReason}
use Rattle.entry.specs.declared.Reason.TheVariants.{Length, Many, Work, Range, Repeated, Row, Column, Room, Flat, Drained, Text, Truncated, Record, Open, Slanted, Absent, Overlap}

-- each reason's number
abbrev pub number_of : Reason → ℕ
number_of Length = 1
number_of Many = 2
number_of Work = 3
number_of Range = 4
number_of Repeated = 5
number_of Row = 6
number_of Column = 7
number_of Room = 8
number_of Flat = 9
number_of Drained = 10
number_of Text = 11
number_of Truncated = 12
number_of Record = 13
number_of Open = 14
number_of Slanted = 15
number_of Absent = 16
number_of Overlap = 17

-- the reason with this number, or a number that no reason has
abbrev pub IsNumbered : ℕ → Result Reason UnknownReason → Type 0
IsNumbered n r = MatchResult r (λ k. number_of k ≡ n) (λ e. (e.0 ≡ n) × ((n ≡ 0) ⊎ (17 < n)))

-- what a refusal prints as: its number and its place
abbrev pub refusal_text : Refusal → List ℕ
refusal_text e = codes "refused " ++ decimal (number_of e.reason) ++ codes " place " ++ decimal e.place

-- what a number that no reason has prints as
abbrev pub unknown_text : UnknownReason → List ℕ
unknown_text e = codes "no refusal has number " ++ decimal e.0
