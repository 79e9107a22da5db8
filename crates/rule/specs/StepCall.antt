-- A call of step: what it checks and accepts, what it answers, and what the working array holds afterwards, of the working array and the
-- count of points.
use Rattle.std.specs.Prelude.{ℕ, ◌*◌, ◌≤◌, ◌<◌, ◌≡◌, List, [], ◌∷◌, length, take, ℤ, pos, Result, Ok, Err}
use Rattle.plane.specs.declared.Rect.{Rect}
use Rattle.plane.specs.Words.{most_points, points_of}
use Rattle.entry.specs.declared.Refusal.{Refusal}
use Rattle.entry.specs.Refusals.{number_of}
use Rattle.entry.specs.Checks.{Check, Verdict, accepted, refused, verdict}
use Rattle.entry.specs.Entry.{written}
use Rattle.rule.specs.declared.Step.{Step}
use Rattle.rule.specs.Rule.{Taken, step}
use Rattle.rule.specs.Rows.{MANY, WORK, DRAINED, point_checks, Accepted}
use Rattle.rule.specs.Working.{padded}

-- the rectangle and the points left: the rule's, of the array's first n points
abbrev pub step_taken : (work : List ℤ) (n : ℕ) → Taken
step_taken work n = step (take n (points_of work))

-- what it checks: 2, 3, 10, 4, 5, 6, 7
unfoldable pub step_checks : (work : List ℤ) (n : ℕ) → List Check
step_checks work n = MANY most_points n ∷ WORK (length work) n ∷ DRAINED n ∷ point_checks (take n (points_of work))

-- what it accepts
pub record StepAccepted (work : List ℤ) (n : ℕ) : Type 0 where
  pub few : n ≤ most_points
  pub working : 2 * n ≤ length work
  pub some_left : 0 < n
  pub points : Accepted (take n (points_of work))

-- what a step answers: a rectangle with the new count of points, or a refusal with its place
pub data StepAnswer : Type 0 where
  Rectangle : (rect : Rect) (count : ℕ) → StepAnswer
  Refused : (number place : ℕ) → StepAnswer

-- the answer that a result tells
abbrev pub step_told : Result Step Refusal → StepAnswer
step_told (Ok s) = Rectangle s.rect s.count
step_told (Err e) = Refused (number_of e.reason) e.place

-- what a step says, of its checks and of what it takes
abbrev pub step_says : Verdict → Taken → StepAnswer
step_says accepted t = Rectangle t.rect (length t.left)
step_says (refused k p) t = Refused k p

-- what it returns
unfoldable pub step_answer : (work : List ℤ) (n : ℕ) → StepAnswer
step_answer work n = step_says (verdict (step_checks work n)) (step_taken work n)

-- what the working array holds afterwards: the points left and zeros up to twice the count given; on a refusal it is unchanged
unfoldable pub step_work : (work : List ℤ) (n : ℕ) → List ℤ
step_work work n = written (verdict (step_checks work n)) (padded n (step_taken work n).left) work

-- what it promises, for every input: its answer, and the working array afterwards
pub record StepDone (work : List ℤ) (n : ℕ) (r : StepAnswer) (work-after : List ℤ) : Type 0 where
  pub answer : r ≡ step_answer work n
  pub working : work-after ≡ step_work work n

-- ---- Document 01's number, place and values for each case of a step's answer

-- a rectangle is answer 0, done
abbrev pub step_number : StepAnswer → ℕ
step_number (Rectangle r n) = 0
step_number (Refused k p) = k

-- with a rectangle the place is 0
abbrev pub step_place : StepAnswer → ℕ
step_place (Rectangle r n) = 0
step_place (Refused k p) = p

-- the rectangle's four numbers and the new count; none with a refusal
abbrev pub step_values : StepAnswer → List ℤ
step_values (Rectangle r n) = r.x ∷ r.y ∷ r.w ∷ r.h ∷ pos n ∷ []
step_values (Refused k p) = []
