-- A call of forward: what it checks and accepts, what it answers, and what each lent array holds afterwards, of the array, the working array
-- and the output (or their lengths).
use Rattle.std.specs.Prelude.{ℕ, ◌*◌, ◌/◌, ◌%◌, ◌≤◌, ◌≡◌, cond, List, [], ◌∷◌, ◌++◌, length, take, ℤ, eqb, Result, Ok, Err}
use Rattle.plane.specs.declared.Point.{Point}
use Rattle.plane.specs.declared.Rect.{Rect}
use Rattle.plane.specs.Lists.{sum}
use Rattle.plane.specs.Words.{most_points, points_of, rect_size, rects_of, flat_rects, area_of}
use Rattle.plane.specs.Edge.{edge_length}
use Rattle.plane.specs.Remaining.{Balanced, remaining}
use Rattle.entry.specs.declared.Refusal.{Refusal}
use Rattle.entry.specs.Refusals.{number_of}
use Rattle.entry.specs.Checks.{Check, Verdict, accepted, refused, verdict}
use Rattle.entry.specs.Entry.{if_accepted, number_in, place_in, written}
use Rattle.rule.specs.declared.Sums.{Sums}
use Rattle.rule.specs.Rule.{rule_list}
use Rattle.rule.specs.Rows.{LENGTH, MANY, WORK, ROOM, balance_checks}
use Rattle.rule.specs.Working.{work_of}

-- the points that remain of the array's
abbrev pub points_remaining : (a : List ℤ) → List Point
points_remaining a = remaining (points_of a)

-- the list: the rule's, of the points that remain
abbrev pub forward_list : (a : List ℤ) → List Rect
forward_list a = rule_list (points_remaining a)

-- what is said beside a list, of these rectangles and with this edge
abbrev pub sums_of : List Rect → (edge : ℕ) → Sums
sums_of rs edge = record { count = length rs; area = sum area_of rs; edge = edge }

-- forward's, of the array
abbrev pub forward_sums : (a : List ℤ) → Sums
forward_sums a = sums_of (forward_list a) (edge_length (points_remaining a))

-- what it checks before the list is known, of the points as given: 1, 2, 3, 4, 6, 7
unfoldable pub input_checks : (a : List ℤ) (work : ℕ) → List Check
input_checks a work = LENGTH (length a) 2 ∷ MANY most_points (length a / 2) ∷ WORK work (length a / 2) ∷ balance_checks (points_of a)

-- what it checks: the same, and then 8
unfoldable pub forward_checks : (a : List ℤ) (work out : ℕ) → List Check
forward_checks a work out = input_checks a work ++ (ROOM (forward_sums a).count (out / rect_size) ∷ [])

-- what it accepts
pub record ForwardAccepted (a : List ℤ) (work out : ℕ) : Type 0 where
  pub even : length a % 2 ≡ 0
  pub few : length a / 2 ≤ most_points
  pub working : 2 * (length a / 2) ≤ work
  pub points : Balanced (points_of a)
  pub room : (forward_sums a).count ≤ out / rect_size

-- what forward answers: answer and place, and the sums
pub record ForwardAnswer : Type 0 where
  pub answer : ℕ
  pub place : ℕ
  pub count : ℕ
  pub area : ℕ
  pub edge : ℕ

-- the answer that a result tells: with sums 0 and place 0, and with a refusal its number and place
abbrev pub forward_told : Result Sums Refusal → ForwardAnswer
forward_told (Ok s) = record { answer = 0; place = 0; count = s.count; area = s.area; edge = s.edge }
forward_told (Err e) = record { answer = number_of e.reason; place = e.place; count = 0; area = 0; edge = 0 }

-- on 0 the sums; on a refusal all but answer and place are 0
abbrev pub forward_says : Verdict → Sums → ForwardAnswer
forward_says v s = record { answer = number_in v; place = place_in v; count = if_accepted v s.count 0; area = if_accepted v s.area 0; edge = if_accepted v s.edge 0 }

-- the sums that an answer tells
abbrev pub sums_told : ForwardAnswer → Sums
sums_told r = record { count = r.count; area = r.area; edge = r.edge }

-- what it returns
unfoldable pub forward_answer : (a : List ℤ) (work out : ℕ) → ForwardAnswer
forward_answer a work out = forward_says (verdict (forward_checks a work out)) (forward_sums a)

-- what the output holds afterwards
unfoldable pub forward_out : (a : List ℤ) (work : ℕ) (out : List ℤ) → List ℤ
forward_out a work out = written (verdict (forward_checks a work (length out))) (flat_rects (forward_list a)) out

-- with 0 and 8 the first 2n numbers, two for each point given, are 0 and the rest unchanged; with any other refusal untouched
abbrev pub drained : Verdict → (n : ℕ) (work : List ℤ) → List ℤ
drained accepted n work = work_of n [] work
drained (refused k p) n work = cond (eqb k 8) (work_of n [] work) work

-- what the working array holds afterwards
unfoldable pub forward_work : (a work : List ℤ) (out : ℕ) → List ℤ
forward_work a work out = drained (verdict (forward_checks a (length work) out)) (length a / 2) work

-- what it promises, for every input: its answer, and the two lent arrays afterwards
pub record ForwardDone (a work out : List ℤ) (r : ForwardAnswer) (work-after out-after : List ℤ) : Type 0 where
  pub answer : r ≡ forward_answer a (length work) (length out)
  pub working : work-after ≡ forward_work a work (length out)
  pub output : out-after ≡ forward_out a (length work) out

-- the list as the caller reads it: as many rectangles as the answer counts, from the start of the output
abbrev pub list_of : ForwardAnswer → (out : List ℤ) → List Rect
list_of r out = take r.count (rects_of out)
