-- Scans of all the points of an array: what they go through.
use Rattle.std.proofs.Common.{◌≡◌, List, ℤ}
use Rattle.std.proofs.lemmas.Iterator.{YieldsList}
use Rattle.std.proofs.lemmas.Iterator.Consumers.{YieldsList-from_first}
use Rattle.std.specs.Iterator.{YieldsFirst}
use Rattle.plane.specs.declared.Items.{Items}
use Rattle.plane.specs.declared.Point.{Point}
use Rattle.plane.specs.Words.{points_of}

-- going through an array gives its points
pub points-given : {s : Items Point} (a : List ℤ) → s.rest.now ≡ a → YieldsList (YieldsFirst (λ (t : Items Point). points_of t.rest.now)) (λ p. p) s (points_of a)
points-given a e = YieldsList-from_first (λ p. p) (λ (t : Items Point). points_of t.rest.now) (points_of a) (rw e)
