-- A call has no second outcome.
use Prim.Native.Nat.{ℕ}
use mathlib.Core.Path.{◌≡◌}
use mathlib.Core.List.{List}
use lib.IntN.{ℤ}
use Rattle.plane.proofs.Outcomes.{one-outcome}
use Rattle.entry.proofs.Entry.{done-one-outcome}
use Rattle.rule.proofs.ForwardCall.{forward-one-outcome}
use Rattle.rule.proofs.StepCall.{step-one-outcome}
use Rattle.panbuckle_c.specs.Face.{Told, ForwardCalled, BackwardCalled, StepCalled, ReadCalled}

-- of numbers that are told
told-one-outcome : {numbers : List ℕ} {r s : ℕ} {m n : List ℕ} → Told numbers r m → Told numbers s n → (r ≡ s) × (m ≡ n)
told-one-outcome d e = (one-outcome d.returned e.returned, one-outcome d.result e.result)

pub forward-call-one-outcome : {a work out : List ℤ} {r s : ℕ} {v w o p : List ℤ} {m n : List ℕ} → ForwardCalled a work out r v o m → ForwardCalled a work out s w p n → (r ≡ s) × (v ≡ w) × (o ≡ p) × (m ≡ n)
forward-call-one-outcome d e =
    let l = forward-one-outcome d.done e.done in
    let t = told-one-outcome (rw l.0 at d.told) e.told in
    (t.0, l.1, l.2, t.1)

pub backward-call-one-outcome : {a out : List ℤ} {r s : ℕ} {o p : List ℤ} {m n : List ℕ} → BackwardCalled a out r o m → BackwardCalled a out s p n → (r ≡ s) × (o ≡ p) × (m ≡ n)
backward-call-one-outcome d e =
    let l = done-one-outcome d.done e.done in
    let t = told-one-outcome (rw l.0 at d.told) e.told in
    (t.0, l.1, t.1)

pub step-call-one-outcome : {work : List ℤ} {count : ℕ} {rect : List ℤ} {r s : ℕ} {v w o p : List ℤ} {m n : List ℕ} → StepCalled work count rect r v o m → StepCalled work count rect s w p n → (r ≡ s) × (v ≡ w) × (o ≡ p) × (m ≡ n)
step-call-one-outcome d e =
    let l = step-one-outcome d.done e.done in
    let t = told-one-outcome (rw l.0 at d.told) e.told in
    (t.0, l.1, one-outcome (rw l.0 at d.rectangle) e.rectangle, t.1)

pub read-call-one-outcome : {t name : List ℕ} {layer : ℤ} {out : List ℤ} {r s : ℕ} {v w o p : List ℤ} {m n : List ℕ} → ReadCalled t name layer out r v o m → ReadCalled t name layer out s w p n → (r ≡ s) × (v ≡ w) × (o ≡ p) × (m ≡ n)
read-call-one-outcome d e =
    let l = done-one-outcome d.done.done e.done.done in
    let t = told-one-outcome (rw l.0 at d.told) e.told in
    (t.0, one-outcome d.done.scratch e.done.scratch, l.1, t.1)
