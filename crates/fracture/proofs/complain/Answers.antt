-- `fracture::complain` writes no more than what it was given.
use native.Mathlib.Omega.{arith}
use Rattle.io.proofs.Counting.{prefix_len_of_le}
use Rattle.numerals.proofs.Putting.{put-within}
use Rattle.fracture.proofs.complain.Goals as goal

pub slice_bounds-sentence-end : goal.slice_bounds-sentence-end
slice_bounds-sentence-end c = put-within _ 0 _ c.complaint-n.ensures (omega arith)

pub slice_bounds-write_error-end : goal.slice_bounds-write_error-end
slice_bounds-write_error-end c = (prefix_len_of_le _ _ (put-within _ 0 _ c.complaint-n.ensures (omega arith))).1
