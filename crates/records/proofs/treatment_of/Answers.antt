-- `records::treatment_of` meets its contract: arm by arm of its match.
use Prim.Native.Nat.{ℕ}
use native.Mathlib.Omega.{arith}
use mathlib.Core.Path.{◌≡◌, refl}
use mathlib.Core.Logic.{◌≢◌, ◌⊎◌, inl, inr}
use mathlib.Core.Bool.{false}
use lib.Dec.{eqb}
use Rattle.plane.specs.Lists.{any}
use borrow.Author.Tests.{ne_eqb}
use Rattle.records.specs.declared.Treatment.TheVariants.{Unknown, Skip}
use Rattle.records.specs.Format.{table}
use Rattle.records.specs.Records.{known, treatment_of}
use Rattle.records.proofs.Treatments.{single, tag, through, treated, within, referring, beyond}
use Rattle.records.proofs.treatment_of.Goals as goal

-- a type that has no arm of its own
apart : (k : ℕ) → k ≢ 4 → k ≢ 6 → k ≢ 7 → k ≢ 13 → k ≢ 16 → k ≢ 20 → k ≢ 24 → k ≢ 53 → any (eqb k) single ≡ false
unfolding any
apart k a b c d e f g h = rw (ne_eqb k 4 a, ne_eqb k 6 b, ne_eqb k 7 c, ne_eqb k 13 d, ne_eqb k 16 e, ne_eqb k 20 f, ne_eqb k 24 g, ne_eqb k 53 h)

-- the three that the format does not use and that stand alone
one : {k : ℕ} → (k ≡ 20) ⊎ ((k ≡ 24) ⊎ (k ≡ 53)) → Unknown ≡ treatment_of k
unfolding treatment_of known any table
one (inl e) = rw e
one (inr (inl e)) = rw e
one (inr (inr e)) = rw e

pub returns-in-4 : goal.returns-in-4
unfolding treatment_of
returns-in-4 c = rw c.in-4.is

pub returns-in-6 : goal.returns-in-6
unfolding treatment_of
returns-in-6 c = rw c.in-6.is

pub returns-in-7 : goal.returns-in-7
unfolding treatment_of
returns-in-7 c = rw c.in-7.is

pub returns-in-13 : goal.returns-in-13
unfolding treatment_of
returns-in-13 c = rw c.in-13.is

pub returns-in-16 : goal.returns-in-16
unfolding treatment_of
returns-in-16 c = rw c.in-16.is

pub returns-in-9-to-11 : goal.returns-in-9-to-11
returns-in-9-to-11 c = let k = c.args.kind in referring k (λ e. omega arith) (λ e. omega arith) (λ e. omega arith) (omega arith) (omega arith)

pub returns-in-60-to-255 : goal.returns-in-60-to-255
returns-in-60-to-255 c = beyond c.args.kind (omega arith)

pub returns-in_default : goal.returns-in_default
unfolding through treated tag treatment_of known any table
returns-in_default c = within c.args.kind (apart c.args.kind (omega arith) (omega arith) (omega arith) (omega arith) (omega arith) (grind arith) (grind arith) (grind arith)) Skip 0 9 refl (omega arith) (omega arith)

pub returns-in_default-2 : goal.returns-in_default-2
unfolding through treated tag treatment_of known any table
returns-in_default-2 c = within c.args.kind (apart c.args.kind (omega arith) (omega arith) (omega arith) (omega arith) (omega arith) (grind arith) (grind arith) (grind arith)) Skip 12 17 refl (omega arith) (omega arith)

pub returns-in_default-3 : goal.returns-in_default-3
unfolding through treated tag treatment_of known any table
returns-in_default-3 c = within c.args.kind (apart c.args.kind (omega arith) (omega arith) (omega arith) (omega arith) (omega arith) (grind arith) (grind arith) (grind arith)) Skip 31 5 refl (omega arith) (omega arith)

pub returns-in_default-4 : goal.returns-in_default-4
unfolding through treated tag treatment_of known any table
returns-in_default-4 c = within c.args.kind (apart c.args.kind (omega arith) (omega arith) (omega arith) (omega arith) (omega arith) (grind arith) (grind arith) (grind arith)) Skip 38 1 refl (omega arith) (omega arith)

pub returns-in_default-5 : goal.returns-in_default-5
unfolding through treated tag treatment_of known any table
returns-in_default-5 c = within c.args.kind (apart c.args.kind (omega arith) (omega arith) (omega arith) (omega arith) (omega arith) (grind arith) (grind arith) (grind arith)) Skip 42 8 refl (omega arith) (omega arith)

pub returns-in_default-6 : goal.returns-in_default-6
unfolding through treated tag treatment_of known any table
returns-in_default-6 c = within c.args.kind (apart c.args.kind (omega arith) (omega arith) (omega arith) (omega arith) (omega arith) (grind arith) (grind arith) (grind arith)) Skip 52 8 refl (omega arith) (omega arith)

pub returns-in-20 : goal.returns-in-20
returns-in-20 c = one c.in-20.is

pub returns-in-20-2 : goal.returns-in-20-2
unfolding through treated tag treatment_of known any table
returns-in-20-2 c = within c.args.kind (apart c.args.kind (omega arith) (omega arith) (omega arith) (omega arith) (omega arith) (grind arith) (grind arith) (grind arith)) Unknown 29 2 refl (omega arith) (omega arith)

pub returns-in-20-3 : goal.returns-in-20-3
unfolding through treated tag treatment_of known any table
returns-in-20-3 c = within c.args.kind (apart c.args.kind (omega arith) (omega arith) (omega arith) (omega arith) (omega arith) (grind arith) (grind arith) (grind arith)) Unknown 36 2 refl (omega arith) (omega arith)

pub returns-in-20-4 : goal.returns-in-20-4
unfolding through treated tag treatment_of known any table
returns-in-20-4 c = within c.args.kind (apart c.args.kind (omega arith) (omega arith) (omega arith) (omega arith) (omega arith) (grind arith) (grind arith) (grind arith)) Unknown 39 3 refl (omega arith) (omega arith)

pub returns-in-20-5 : goal.returns-in-20-5
unfolding through treated tag treatment_of known any table
returns-in-20-5 c = within c.args.kind (apart c.args.kind (omega arith) (omega arith) (omega arith) (omega arith) (omega arith) (grind arith) (grind arith) (grind arith)) Unknown 50 2 refl (omega arith) (omega arith)
