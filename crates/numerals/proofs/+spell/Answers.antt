-- The proof of the cycle of calls {spell}.
use Prim.Native.Nat.{ℕ, ◌+◌, ◌/◌, ◌%◌, ◌<◌}
use native.Mathlib.Numerals.{add-one}
use native.Mathlib.Omega.{arith}
use mathlib.Core.Path.{◌≡◌, refl}
use mathlib.Core.List.{List, [], ◌∷◌, ◌++◌}
use lib.ListN.{length, drop, set, length-append}
use lib.Seq.{drop-cons, set-append_seam, append_snoc, set_split}
use Rattle.numerals.specs.Numerals.{decimal}
use Rattle.numerals.proofs.Printing.{decimal-one, decimal-more, decimal-longer, decimal-some}
use Rattle.numerals.proofs.+spell.Goals as goal

-- bytes at the start of an output, and one more stored after them
put_last : (d out : List ℕ) (v : ℕ) → length d < length out → set (d ++ drop (length d) out) (length d) v ≡ (d ++ (v ∷ [])) ++ drop (length (d ++ (v ∷ []))) out
put_last d out v h = rw (drop-cons out (length d) 0 h, set-append_seam, append_snoc, length-append, add-one)

pub bounds-out-0 : goal.bounds-out-0
bounds-out-0 t c = omega (arith, decimal-some c.args.n)

pub returns-then-n-lt10-clause-value : goal.returns-then-n-lt10-clause-value
returns-then-n-lt10-clause-value t c = rw (decimal-one c.args.n (omega arith)) refl

pub returns-then-n-lt10-clause-out_after : goal.returns-then-n-lt10-clause-out_after
returns-then-n-lt10-clause-out_after t c = rw (decimal-one c.args.n (omega arith)) (set_split c.args.out.now 0 (48 + c.args.n) (omega (arith, decimal-some c.args.n)))

pub spell-at-requires : goal.spell-at-requires
spell-at-requires t c = (omega arith, omega (arith, decimal-longer c.args.n (omega arith)))

-- the digits of the number's tenth leave room for one more
pub bounds-out-at : goal.bounds-out-at
bounds-out-at t c = let e = c.spell-at.ensures.value in omega (arith, decimal-longer c.args.n (omega arith))

pub returns-clause-value : goal.returns-clause-value
returns-clause-value t c = let e = c.spell-at.ensures.value in omega (arith, decimal-longer c.args.n (omega arith))

pub returns-clause-out_after : goal.returns-clause-out_after
returns-clause-out_after t c =
    let e = c.spell-at.ensures in
    let n = c.args.n in
    rw (e.value, e.out_after, decimal-more n (omega arith)) (put_last (decimal (n / 10)) c.args.out.now (48 + n % 10) (omega (arith, decimal-longer n (omega arith))))
