-- What the private functions speak of. No caller needs these definitions: the promises are in Program and Sentences.
use Rattle.std.specs.Prelude.{ℕ, ◌≡◌, List, length, replicate, ℤ, pos, Result}
use Rattle.plane.specs.Lists.{put_at}
use Rattle.plane.specs.Words.{points_of}
use Rattle.entry.specs.Checks.{Verdict, verdict}
use Rattle.entry.specs.declared.Refusal.{Refusal}
use Rattle.rule.specs.declared.Sums.{Sums}
use Rattle.rule.specs.ForwardCall.{forward_checks, forward_list, forward_sums, forward_told, ForwardDone}
use Rattle.text.specs.declared.Report.{Report}
use Rattle.text.specs.Program.{most_work, most_list, printed, report_says}

-- what forward says of the points of an array, with the program's work and room
abbrev pub says : List ℤ → Verdict
says a = verdict (forward_checks a most_work most_list)

-- what forward makes of an array, with the program's work, of which it leaves something
pub record Fractured (a out : List ℤ) (r : Result Sums Refusal) (out-after : List ℤ) : Type 0 where
  pub work-after : List ℤ
  pub done : ForwardDone a (replicate most_work (pos 0)) out (forward_told r) work-after out-after

-- the program on the numbers of a text that was read: its report, and the output afterwards
pub record Listed (a : List ℤ) (read : ℕ) (out : List ℕ) (r : Report) (out-after : List ℕ) : Type 0 where
  pub report : r ≡ report_says (says a) (points_of a) read (length (printed (says a) (forward_sums a) (forward_list a)))
  pub output : out-after ≡ put_at out 0 (printed (says a) (forward_sums a) (forward_list a))
