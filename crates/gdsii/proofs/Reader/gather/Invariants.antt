-- The invariant of `gdsii::Reader::gather`: what is gathered of the rest of the walk, after what was gathered, is what is gathered of all.
use Prim.Native.Nat.{ℕ, ◌-◌, ◌*◌, ◌≤◌}
use mathlib.Core.Path.{◌≡◌}
use mathlib.Core.List.{List}
use lib.ListN.{length}
use lib.IntN.{ℤ}
use Rattle.plane.specs.Words.{most_cells}
use Rattle.gdsii.specs.Walk.{Outcome}
use Rattle.gdsii.specs.Call.{scratch_size}
use Rattle.gdsii.specs.Inner.{walk_from, whole_walk, gathered, Filled}
use Rattle.gdsii.proofs.Reader.gather.Given as goal

-- after n corners and a sum, with the array as it is then, the rest gives what all of it gives
pub record Going (whole rest : Outcome) (first a : List ℤ) (n area : ℕ) : Type 0 where
  pub sized : length a ≡ scratch_size
  pub capped : area ≤ 2 * most_cells
  pub gathers : gathered rest n area ≡ gathered whole 0 0
  pub fills : (after : List ℤ) → Filled rest n a after → Filled whole 0 first after

abbrev pub invariant-loop-outline : goal.invariant-loop-outline
invariant-loop-outline l = (l.c.at ≤ length l.self.bytes.now) × (l.count ≤ l.c.at) × Going (whole_walk l.self) (walk_from l.self l.c) l.initial.a l.a l.count l.area

abbrev pub decreases-loop-outline : goal.decreases-loop-outline
decreases-loop-outline l = length l.self.bytes.now - l.c.at
