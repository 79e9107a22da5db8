-- What a caller keeps of whatever meets the contract of `picture`.
use Prim.Native.Nat.{ℕ, ◌≤◌}
use native.Mathlib.Omega.{arith}
use mathlib.Core.Path.{◌≡◌, ◌∙◌}
use mathlib.Core.List.{List}
use lib.ListN.{length, take}
use lib.Dec.{leb}
use borrow.Author.Tests.{le-leb}
use Rattle.plane.proofs.Bools.{cond-true}
use Rattle.plane.proofs.AtPlace.{pasted_length, pasted-front}
use Rattle.plane.proofs.Outcomes.{one-outcome}
use Rattle.drawing.specs.Picture.{picture_of, Drawn}
use Rattle.drawing.proofs.Longest.{picture-fits}

-- into 800,000 bytes the whole picture is drawn, from the start on
pub draws-all : {t out : List ℕ} {r : ℕ} {after : List ℕ} → Drawn t out r after → 800_000 ≤ length out → (take r after ≡ picture_of t) × (r ≤ length after) × (length after ≡ length out)
draws-all {t} {out} d room =
    let enough = le-leb 800_000 (length out) room in
    let size = d.size ∙ cond-true (leb 800_000 (length out)) _ _ enough in
    let output = d.output ∙ cond-true (leb 800_000 (length out)) _ _ enough in
    let fits = picture-fits t in
    let long = pasted_length out 0 (picture_of t) (omega arith) in
    rw (size, output) (pasted-front out (picture_of t), omega arith, long)

-- there is no second outcome
pub picture-one-outcome : {t out : List ℕ} {r s : ℕ} {o p : List ℕ} → Drawn t out r o → Drawn t out s p → (r ≡ s) × (o ≡ p)
picture-one-outcome d e = (one-outcome d.size e.size, one-outcome d.output e.output)
