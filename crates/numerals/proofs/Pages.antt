-- What is written on a page after several additions that have room.
use Prim.Native.Nat.{ℕ, ◌+◌, ◌≤◌}
use native.Mathlib.Omega.{arith}
use mathlib.Core.Path.{◌≡◌, sym, ◌∙◌}
use mathlib.Core.List.{List, [], ◌∷◌, ◌++◌, append-nil, append_assoc}
use lib.ListN.{length, length-append}
use borrow.Author.Tests.{le-leb}
use Rattle.numerals.specs.Bytes.{added}

-- pieces, one after another
abbrev pub joined : List (List ℕ) → List ℕ
joined [] = []
joined (x ∷ []) = x
joined (x ∷ y ∷ rest) = x ++ joined (y ∷ rest)

-- a page to which they are added, each after the one before
abbrev pub added_each : (size : ℕ) (page : List ℕ) (pieces : List (List ℕ)) → List ℕ
added_each n page [] = page
added_each n page (x ∷ rest) = added_each n (added n page x) rest

-- with room for all of them all are there
pub added-all : (n : ℕ) (page : List ℕ) (pieces : List (List ℕ)) → length page + length (joined pieces) ≤ n → added_each n page pieces ≡ page ++ joined pieces
added-all n page [] h = sym (append-nil page)
added-all n page (x ∷ []) h = rw (le-leb (length page + length x) n h)
added-all n page (x ∷ y ∷ rest) h =
    let first = le-leb (length page + length x) n (omega (arith, length-append x (joined (y ∷ rest)))) in
    let room : length (page ++ x) + length (joined (y ∷ rest)) ≤ n = omega (arith, length-append page x, length-append x (joined (y ∷ rest))) in
    rw first (added-all n (page ++ x) (y ∷ rest) room ∙ append_assoc page x (joined (y ∷ rest)))
