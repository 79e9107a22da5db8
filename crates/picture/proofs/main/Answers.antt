-- `picture::main` lends `picture` room for the largest picture, and writes what is drawn.
use Prim.Native.Nat.{ℕ, ◌≤◌}
use native.Mathlib.Omega.{arith}
use mathlib.Core.Path.{sym}
use lib.ListN.{length, replicate, length-replicate}
use Rattle.io.proofs.Counting.{prefix_len_of_le}
use Rattle.drawing.proofs.Kept.{draws-all}
use Rattle.picture.proofs.main.Goals as goal

-- said for every length, so that none is computed
filled : (n : ℕ) → n ≤ length {A = ℕ} (replicate n 0)
filled n = rw (length-replicate {A = ℕ} n 0) (omega arith)

pub slice_bounds-drawn-end : goal.slice_bounds-drawn-end
slice_bounds-drawn-end c = (draws-all c.picture-n.ensures (filled 800_000)).1

pub slice_bounds-write_output-end : goal.slice_bounds-write_output-end
slice_bounds-write_output-end c = (prefix_len_of_le _ _ (draws-all c.picture-n.ensures (filled 800_000)).1).1

pub slice_bounds-read_input-end : goal.slice_bounds-read_input-end
slice_bounds-read_input-end c = sym (length-replicate {A = ℕ} 65_537 0)

pub slice_bounds-picture-end-2 : goal.slice_bounds-picture-end-2
slice_bounds-picture-end-2 c = sym (length-replicate {A = ℕ} 800_000 0)
