-- The record table, as the code's arrays have it.
use mathlib.Core.Path.{◌≡◌, refl}
use Prim.Native.Nat.{ℕ, ◌≤◌, ◌<◌}
use mathlib.Core.Bool.{Bool, true, false, ◌&&◌}
use mathlib.Core.List.{List, [], ◌∷◌}
use lib.ListN.{get_or}
use Rattle.records.specs.Format.{Kind, table, fits_in, fits, fits_length}
use Rattle.std.proofs.Common.{None}
use Rattle.std.specs.Option.{is_some}
use Rattle.records.specs.declared.TheConstants.{DATA}
use Rattle.records.specs.Inner.{fits_data}
use Rattle.records.specs.Records.{known}
use native.Mathlib.Omega.{arith}
use lib.Dec.{eqb, ltb}
use borrow.Author.Tests.{ltb-true, ne_eqb}
use Rattle.plane.specs.Lists.{any}
use Rattle.plane.proofs.Bools.{and_parts, or_parts}
use Rattle.records.proofs.Tables.{All, all-at}

-- ---- The code's table

-- what it says of a type
abbrev pub At : ℕ → Type 0
At k = ((b n : ℕ) → fits_data (get_or DATA k None) b n ≡ fits k b n) × (is_some (get_or DATA k None) ≡ known k)

rows : All At 60
unfolding fits fits_in table fits_length known any
rows = ((λ b n. refl, refl), ((λ b n. refl, refl), ((λ b n. refl, refl), ((λ b n. refl, refl), ((λ b n. refl, refl), ((λ b n. refl, refl), ((λ b n. refl, refl), ((λ b n. refl, refl), ((λ b n. refl, refl), ((λ b n. refl, refl), ((λ b n. refl, refl), ((λ b n. refl, refl), ((λ b n. refl, refl), ((λ b n. refl, refl), ((λ b n. refl, refl), ((λ b n. refl, refl), ((λ b n. refl, refl), ((λ b n. refl, refl), ((λ b n. refl, refl), ((λ b n. refl, refl), ((λ b n. refl, refl), ((λ b n. refl, refl), ((λ b n. refl, refl), ((λ b n. refl, refl), ((λ b n. refl, refl), ((λ b n. refl, refl), ((λ b n. refl, refl), ((λ b n. refl, refl), ((λ b n. refl, refl), ((λ b n. refl, refl), ((λ b n. refl, refl), ((λ b n. refl, refl), ((λ b n. refl, refl), ((λ b n. refl, refl), ((λ b n. refl, refl), ((λ b n. refl, refl), ((λ b n. refl, refl), ((λ b n. refl, refl), ((λ b n. refl, refl), ((λ b n. refl, refl), ((λ b n. refl, refl), ((λ b n. refl, refl), ((λ b n. refl, refl), ((λ b n. refl, refl), ((λ b n. refl, refl), ((λ b n. refl, refl), ((λ b n. refl, refl), ((λ b n. refl, refl), ((λ b n. refl, refl), ((λ b n. refl, refl), ((λ b n. refl, refl), ((λ b n. refl, refl), ((λ b n. refl, refl), ((λ b n. refl, refl), ((λ b n. refl, refl), ((λ b n. refl, refl), ((λ b n. refl, refl), ((λ b n. refl, refl), ((λ b n. refl, refl), ((λ b n. refl, refl), tt))))))))))))))))))))))))))))))))))))))))))))))))))))))))))))

-- each type below 60
pub at-row : (k : ℕ) → k < 60 → At k
at-row k h = all-at At 60 rows k h

-- ---- Types that are not in the table

-- the types of a table are below 60
below : List Kind → Bool
below [] = true
below (k ∷ ks) = ltb k.type 60 && below ks

not_listed : (ks : List Kind) (t : ℕ) → below ks ≡ true → 60 ≤ t → any (λ k. eqb k.type t) ks ≡ false
unfolding any below
not_listed [] t e h = refl
not_listed (k ∷ ks) t e h =
    let p = and_parts (ltb k.type 60) (below ks) e in
    let q = ltb-true k.type 60 p.0 in
    rw (ne_eqb k.type t (λ d. omega arith)) (not_listed ks t p.1 h)

pub unknown-beyond : (t : ℕ) → 60 ≤ t → known t ≡ false
unfolding known below table
unknown-beyond t h = not_listed table t refl h

unlisted-unfit : (ks : List Kind) (t b n : ℕ) → any (λ k. eqb k.type t) ks ≡ false → fits_in ks t b n ≡ false
unfolding any fits_in
unlisted-unfit [] t b n e = refl
unlisted-unfit (k ∷ ks) t b n e =
    let p = or_parts (eqb k.type t) (any (λ j. eqb j.type t) ks) e in
    rw p.0 (unlisted-unfit ks t b n p.1)

-- an unknown type can have no data
pub unknown-unfit : (t b n : ℕ) → known t ≡ false → fits t b n ≡ false
unfolding fits known
unknown-unfit t b n e = unlisted-unfit table t b n e
