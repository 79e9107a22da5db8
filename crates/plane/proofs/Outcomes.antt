-- A contract that gives the result by one equation fixes it.
use mathlib.Core.Path.{◌≡◌, sym, ◌∙◌}

-- two outcomes of a function that returns what a definition says of its arguments are equal
pub one-outcome : {A : Type 0} {r s said : A} → r ≡ said → s ≡ said → r ≡ s
one-outcome d e = d ∙ sym e
