-- `fracture::main` lends `answer` room for all that is printed, and writes that.
use Prim.Native.Nat.{ℕ, ◌≤◌}
use native.Mathlib.Omega.{arith}
use mathlib.Core.Path.{sym}
use lib.ListN.{length, replicate, length-replicate}
use Rattle.io.proofs.Counting.{prefix_len_of_le}
use Rattle.text.proofs.Kept.{prints-all}
use Rattle.fracture.proofs.main.Goals as goal

-- said for every length, so that none is computed
filled : (n : ℕ) → n ≤ length {A = ℕ} (replicate n 0)
filled n = rw (length-replicate {A = ℕ} n 0) (omega arith)

pub slice_bounds-printed-end : goal.slice_bounds-printed-end
slice_bounds-printed-end c = (prints-all c.answer-outcome.ensures (filled 153_679)).1

pub slice_bounds-write_output-end : goal.slice_bounds-write_output-end
slice_bounds-write_output-end c = (prefix_len_of_le _ _ (prints-all c.answer-outcome.ensures (filled 153_679)).1).1

pub slice_bounds-read_input-end : goal.slice_bounds-read_input-end
slice_bounds-read_input-end c = sym (length-replicate {A = ℕ} 65_537 0)

pub slice_bounds-answer-end-2 : goal.slice_bounds-answer-end-2
slice_bounds-answer-end-2 c = sym (length-replicate {A = ℕ} 153_679 0)
