-- Calls of the library one after another: steps until none is left, and backward and then forward.
use Rattle.std.specs.Prelude.{ℕ, ◌*◌, ◌/◌, ◌≤◌, ◌≡◌, List, [], ◌∷◌, length, take, ℤ}
use Rattle.plane.specs.declared.Rect.{Rect}
use Rattle.plane.specs.Words.{most_points, rect_size}
use Rattle.entry.specs.Entry.{Counted}
use Rattle.rule.specs.Working.{work_of}
use Rattle.rule.specs.ForwardCall.{points_remaining, forward_list, ForwardDone, list_of, ForwardAnswer}
use Rattle.rule.specs.BackwardCall.{BackwardDone}
use Rattle.rule.specs.StepCall.{StepDone, Rectangle, Refused}

-- ---- Calls of step, one after another

-- a working array with the points that remain of an array copied to its start, as they are first listed, and zeros up to two numbers per point given
abbrev pub copied : (a work : List ℤ) → List ℤ
copied a work = work_of (length a / 2) (points_remaining a) work

-- how many points are copied
abbrev pub copies : (a : List ℤ) → ℕ
copies a = length (points_remaining a)

-- calls of step on a working array with n points, until one answers DRAINED: their rectangles, and the array after the last
pub data Stepped : (work : List ℤ) (n : ℕ) → List Rect → (work-after : List ℤ) → Type 0 where
  emptied : {work : List ℤ} {n : ℕ} {work-after : List ℤ} → StepDone work n (Refused 10 0) work-after → Stepped work n [] work-after
  another : {work : List ℤ} {n : ℕ} {r : Rect} {m : ℕ} {between : List ℤ} {rs : List Rect} {work-after : List ℤ} → StepDone work n (Rectangle r m) between → Stepped between m rs work-after → Stepped work n (r ∷ rs) work-after

-- calls of step on a working array with n points that each answer a rectangle: the array and the count that they reach
pub data Reached (work : List ℤ) (n : ℕ) : (work-now : List ℤ) (m : ℕ) → Type 0 where
  at-start : Reached work n work n
  onward : {between : List ℤ} {m : ℕ} {r : Rect} {j : ℕ} {work-now : List ℤ} → Reached work n between m → StepDone between m (Rectangle r j) work-now → Reached work n work-now j

-- ---- A call of backward, and a call of forward on what it wrote

-- backward of a rectangle list, accepted with at most 4,096 points, and forward of the numbers that it wrote, with work and room for them
pub record BackThenForward (a : List ℤ) : Type 0 where
  pub points : List ℤ
  pub said : Counted
  pub points-after : List ℤ
  pub back : BackwardDone a points said points-after
  pub done : said.answer ≡ 0
  pub few : said.count ≤ most_points
  pub work : List ℤ
  pub out : List ℤ
  pub answer : ForwardAnswer
  pub work-after : List ℤ
  pub out-after : List ℤ
  pub forth : ForwardDone (take (2 * said.count) points-after) work out answer work-after out-after
  pub working : 2 * said.count ≤ length work
  pub room : length (forward_list (take (2 * said.count) points-after)) ≤ length out / rect_size

-- the forward list, as the caller reads it
abbrev pub list_after : {a : List ℤ} → BackThenForward a → List Rect
list_after t = list_of t.answer t.out-after
