-- Laws of templates: how long one is when it is filled, and how it is filled byte by byte.
use Prim.Native.Nat.{ℕ, suc, ◌+◌, ◌*◌, ◌^◌, ◌≤◌, ◌<◌}
use native.Mathlib.Nat.{mul-suc}
use native.Mathlib.Numerals.{add-one}
use native.Mathlib.Omega.{arith}
use mathlib.Core.Path.{◌≡◌, refl}
use mathlib.Core.List.{List, [], ◌∷◌, ◌++◌}
use lib.ListN.{length, get_or, drop, length-append}
use lib.Seq.{drop-cons}
use lib.Dec.{eqb}
use borrow.Author.Tests.{ne_eqb}
use Rattle.std.proofs.Common.{Iter, Bor, Option, Some, None}
use Rattle.std.proofs.lemmas.List.{nil_from_length}
use Rattle.std.specs.Option.{unwrap_or, option_copied}
use Rattle.std.specs.Slice.Iter.{iter_steps}
use Rattle.plane.proofs.Bools.{cond-case}
use Rattle.numerals.specs.Numerals.{decimal}
use Rattle.numerals.proofs.Printing.{decimal-length}
use Rattle.drawing.specs.Picture.{blank, filled}

-- ---- How long

-- all numbers are below a bound
abbrev pub Below : ℕ → List ℕ → Type 0
Below b [] = Unit
Below b (n ∷ ns) = (n < b) × Below b ns

-- a template filled with numbers of so many digits is no longer than itself and the digits
filled-length : (k : ℕ) (template numbers : List ℕ) → Below (10 ^ suc k) numbers → length (filled template numbers) ≤ length template + suc k * length numbers
unfolding filled
filled-length k [] ns h = omega arith
filled-length k (c ∷ cs) [] h =
    let P : List ℕ → Type 0 = λ l. length l ≤ suc (length cs) + suc k * 0 in
    let rest = filled-length k cs [] tt in
    cond-case P (eqb c blank) (λ _. simp length-append (omega (arith, decimal-length 0 0 (omega arith)))) (λ _. omega arith)
filled-length k (c ∷ cs) (n ∷ ns) h =
    let P : List ℕ → Type 0 = λ l. length l ≤ suc (length cs) + suc k * suc (length ns) in
    let next = filled-length k cs ns h.1 in
    let rest = filled-length k cs (n ∷ ns) h in
    cond-case P (eqb c blank) (λ _. simp length-append (omega (arith, decimal-length k n h.0, mul-suc (suc k) (length ns)))) (λ _. omega arith)

-- so it has at most so many bytes, if those have
pub filled-most : (k : ℕ) (template numbers : List ℕ) {most : ℕ} → Below (10 ^ suc k) numbers → length template + suc k * length numbers ≤ most → length (filled template numbers) ≤ most
filled-most k template numbers h m = omega (arith, filled-length k template numbers h)

-- ---- Byte by byte

-- a template without a byte has none
pub filled-nil : (numbers : List ℕ) → filled [] numbers ≡ []
unfolding filled
filled-nil numbers = refl

-- what the next of some numbers is, and 0 where there is none, and the numbers after it
pub next-of : (s t : Iter ℕ) (r : Option (Bor ℕ)) → iter_steps s r t → (unwrap_or (option_copied r) 0 ≡ get_or s.rest.now 0 0) × (t.rest.now ≡ drop 1 s.rest.now)
next-of s t None h =
    let none : s.rest.now ≡ [] = nil_from_length s.rest.now h.0 in
    rw (h.1, none) (refl, refl)
next-of s t (Some x) h = rw h (refl, refl)

-- the byte at a place of a template, if it is `@`, is the first number, printed
pub next-number : (template numbers : List ℕ) (i : ℕ) → i < length template → get_or template i 0 ≡ blank → filled (drop i template) numbers ≡ decimal (get_or numbers 0 0) ++ filled (drop (i + 1) template) (drop 1 numbers)
unfolding filled
next-number template numbers i more e = rw (drop-cons template i 0 more, add-one, e) refl

-- and otherwise itself
pub next-byte : (template numbers : List ℕ) (i : ℕ) → i < length template → ¬ (get_or template i 0 ≡ blank) → filled (drop i template) numbers ≡ get_or template i 0 ∷ filled (drop (i + 1) template) numbers
unfolding filled
next-byte template numbers i more n = rw (drop-cons template i 0 more, add-one, ne_eqb (get_or template i 0) blank n) refl
