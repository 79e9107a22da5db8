-- What the C face promises, for every input: the number that a call returns, and what each lent array holds afterwards.
use Rattle.std.specs.Prelude.{ℕ, ◌≡◌, List, [], ◌∷◌, get_or, ℤ}
use Rattle.entry.specs.Checks.{accepted, refused}
use Rattle.entry.specs.Entry.{counted, Counted}
use Rattle.rule.specs.ForwardCall.{ForwardDone, ForwardAnswer}
use Rattle.rule.specs.BackwardCall.{BackwardDone}
use Rattle.rule.specs.StepCall.{StepDone, StepAnswer, Rectangle, Refused}
use Rattle.gdsii.specs.Call.{ReadDone}

-- ---- The numbers of a result

-- forward's: answer, place, count, area, edge
abbrev pub forward_numbers : ForwardAnswer → List ℕ
forward_numbers r = r.answer ∷ r.place ∷ r.count ∷ r.area ∷ r.edge ∷ []

-- those of an answer that counts: answer, place, count
abbrev pub counted_numbers : Counted → List ℕ
counted_numbers r = r.answer ∷ r.place ∷ r.count ∷ []

-- a step's answer as one that counts the points that are left
abbrev pub step_counted : StepAnswer → Counted
step_counted (Rectangle r n) = counted accepted n
step_counted (Refused k p) = counted (refused k p) 0

-- the array for a step's rectangle afterwards: X, Y, W, H; with a refusal it is as before
abbrev pub rect_numbers : StepAnswer → (before : List ℤ) → List ℤ
rect_numbers (Rectangle r n) before = r.x ∷ r.y ∷ r.w ∷ r.h ∷ []
rect_numbers (Refused k p) before = before

-- ---- The calls

-- an answer's numbers are told: the first is returned, and the result holds all
pub record Told (numbers : List ℕ) (r : ℕ) (result-after : List ℕ) : Type 0 where
  pub returned : r ≡ get_or numbers 0 0
  pub result : result-after ≡ numbers

-- panbuckle_forward does what the library's forward does, and tells what it said
pub record ForwardCalled (a work out : List ℤ) (r : ℕ) (work-after out-after : List ℤ) (result-after : List ℕ) : Type 0 where
  pub said : ForwardAnswer
  pub done : ForwardDone a work out said work-after out-after
  pub told : Told (forward_numbers said) r result-after

-- panbuckle_backward, the library's backward
pub record BackwardCalled (a out : List ℤ) (r : ℕ) (out-after : List ℤ) (result-after : List ℕ) : Type 0 where
  pub said : Counted
  pub done : BackwardDone a out said out-after
  pub told : Told (counted_numbers said) r result-after

-- panbuckle_step, the library's step, with its rectangle
pub record StepCalled (work : List ℤ) (n : ℕ) (rect : List ℤ) (r : ℕ) (work-after rect-after : List ℤ) (result-after : List ℕ) : Type 0 where
  pub said : StepAnswer
  pub done : StepDone work n said work-after
  pub rectangle : rect-after ≡ rect_numbers said rect
  pub told : Told (counted_numbers (step_counted said)) r result-after

-- panbuckle_read_gdsii, the reading of a stream
pub record ReadCalled (t name : List ℕ) (layer : ℤ) (out : List ℤ) (r : ℕ) (scratch_after out-after : List ℤ) (result-after : List ℕ) : Type 0 where
  pub said : Counted
  pub done : ReadDone t name layer out said scratch_after out-after
  pub told : Told (counted_numbers said) r result-after

-- ---- The version

-- what panbuckle_version_3 returns
abbrev pub version : ℕ
version = 3
