-- `text::sentence_page` meets its contract.
use Rattle.std.proofs.Common.{◌≡◌, ℕ, ◌<◌, ◌⊎◌, false, [], inl, inr, eqb, ne_eqb, arith}
use Rattle.entry.specs.declared.Reason.TheVariants.{Many, Range, Row, Column, Room, Text}
use Rattle.text.specs.declared.Report.{Report}
use Rattle.text.specs.Program.{names_one}
use Rattle.text.specs.Sentences.{point_fault, sentence}
use Rattle.entry.proofs.Reasons.{number-other}
use Rattle.text.proofs.sentence_page.Goals as goal

-- a number that no reason has is none from 1 to 17
other-number : (n k : ℕ) → (n ≡ 0) ⊎ (17 < n) → 0 < k → k < 18 → eqb n k ≡ false
other-number n k (inl e) h l = ne_eqb n k (λ d. absurd (omega arith))
other-number n k (inr g) h l = ne_eqb n k (λ d. absurd (omega arith))

-- of it nothing is said
nothing-said : (r : Report) → (r.answer ≡ 0) ⊎ (17 < r.answer) → sentence r ≡ []
unfolding sentence names_one
nothing-said r h =
    let n = r.answer in
    rw (other-number n 4 h (omega arith) (omega arith), other-number n 6 h (omega arith) (omega arith), other-number n 7 h (omega arith) (omega arith), other-number n 2 h (omega arith) (omega arith), other-number n 8 h (omega arith) (omega arith), other-number n 11 h (omega arith) (omega arith))

pub returns-in-Range : goal.returns-in-Range
unfolding sentence names_one point_fault
returns-in-Range c = rw (← c.in-Ok.ensures, c.in-Range.is) c.point_page.ensures

pub returns-in-Row : goal.returns-in-Row
unfolding sentence names_one point_fault
returns-in-Row c = rw (← c.in-Ok.ensures, c.in-Row.is) c.point_page-in-Row.ensures

pub returns-in-Column : goal.returns-in-Column
unfolding sentence names_one point_fault
returns-in-Column c = rw (← c.in-Ok.ensures, c.in-Column.is) c.point_page-in-Column.ensures

pub returns-in-Many : goal.returns-in-Many
unfolding sentence names_one point_fault
returns-in-Many c = rw (← c.in-Ok.ensures, c.in-Many.is) c.many_page.ensures

pub returns-in-Room : goal.returns-in-Room
unfolding sentence names_one point_fault
returns-in-Room c = rw (← c.in-Ok.ensures, c.in-Room.is) c.room_page.ensures

pub returns-in-Text : goal.returns-in-Text
unfolding sentence names_one point_fault
returns-in-Text c = rw (← c.in-Ok.ensures, c.in-Text.is) c.line_page.ensures

pub returns-in_default : goal.returns-in_default
returns-in_default c = rw (nothing-said c.args.report c.in_default.ensures.1) c.new.ensures

-- nor of a refusal that the program never gives
pub returns-in_default-reason : goal.returns-in_default-reason
unfolding sentence names_one
returns-in_default-reason c =
    let r = c.in-Ok.reason in
    let n = c.in_default-reason in
    rw (← c.in-Ok.ensures, number-other r Range n.not-Range, number-other r Row n.not-Row, number-other r Column n.not-Column, number-other r Many n.not-Many, number-other r Room n.not-Room, number-other r Text n.not-Text) c.new-in_default-reason.ensures
