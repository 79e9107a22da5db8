-- One theory of an entry point: from what its checks say, what its caller gets and finds afterwards.
use mathlib.Core.Path.{◌≡◌, refl, ap}
use mathlib.Core.Logic.Iff
use mathlib.Core.Logic.{◌↔◌, ◌≢◌}
use Prim.Native.Nat.{ℕ, suc, ◌≤◌}
use native.Mathlib.Omega.{arith}
use mathlib.Core.List.{List}
use lib.ListN.{length}
use Rattle.std.specs.Prelude.{Result}
use Rattle.plane.specs.Lists.{at_start}
use Rattle.plane.proofs.AtStart.{start-starts, start-length}
use Rattle.plane.proofs.Outcomes.{one-outcome}
use Rattle.entry.specs.declared.Refusal.{Refusal}
use Rattle.entry.specs.Checks.{Check, Verdict, accepted, refused, verdict}
use Rattle.entry.specs.Entry.{number_in, place_in, told, counted, written, Done, Answers, Leaves, Kept, Counted}
use Rattle.entry.proofs.Verdicts.{verdict-case, Numbers, refused-exactly, refused-number, accepted-exactly}
use Rattle.entry.proofs.Reasons.{told-apart}

-- ---- A refusal

-- it is its number and its place
pub refused-is : (v : Verdict) → number_in v ≢ 0 → v ≡ refused (number_in v) (place_in v)
refused-is accepted h = absurd (h refl)
refused-is (refused k p) h = refl

-- an answer that counts and is no 0 is a refusal's
pub counted-refused : (v : Verdict) (n : ℕ) {r : Counted} → r ≡ counted v n → r.answer ≢ 0 → (v ≡ refused r.answer r.place) × (r ≡ counted (refused r.answer r.place) 0)
counted-refused accepted n e h = absurd (h (rw e))
counted-refused (refused k p) n e h = rw e (refl, refl)

-- ---- What is answered and left

-- every number is a refusal's: 0 is done's
abbrev pub Numbered : List Check → Type 0
Numbered checks = Numbers (λ k. 1 ≤ k) checks

module _ (checks : List Check) (numbered : Numbered checks) where
  -- the number is 0 exactly when the checks accept
  pub accepts : (number_in (verdict checks) ≡ 0) ↔ (verdict checks ≡ accepted)
  accepts = (verdict-case (λ v. number_in v ≡ 0 → verdict checks ≡ accepted) (verdict checks) (λ e _. e) (λ k p e z. absurd (omega (arith, refused-number checks (λ n. 1 ≤ n) numbered e))), ap number_in)

  -- so where an answer that counts is 0 they do
  pub counted-accepted : (n : ℕ) {r : Counted} → r ≡ counted (verdict checks) n → r.answer ≡ 0 → verdict checks ≡ accepted
  counted-accepted n e z = accepts.0 (rw e at z)

  -- the number and the place are what the checks give
  pub answers : Answers checks (number_in (verdict checks)) (place_in (verdict checks))
  answers = record {
    refused-exactly-when = λ k p. Iff.trans (go k p (verdict checks), λ e. (ap number_in e, ap place_in e)) (refused-exactly checks (suc k) p);
    done-exactly-when = Iff.trans accepts (accepted-exactly checks);
    done-place = λ e. ap place_in (accepts.0 e);
  }
    where
      go : (k p : ℕ) (v : Verdict) → (number_in v ≡ suc k) × (place_in v ≡ p) → v ≡ refused (suc k) p
      go k p accepted e = absurd (omega arith)
      go k p (refused n q) e = cc

  -- an output is left as the answer says, where what is accepted has room
  pub leaves : {A : Type 0} (result out : List A) → (verdict checks ≡ accepted → length result ≤ length out) → Leaves (number_in (verdict checks)) result out (written (verdict checks) result out)
  leaves result out fits = record {
    refused-untouched = λ h. rw (refused-is (verdict checks) h);
    done-starts = λ e. rw (accepts.0 e) (start-starts result out);
    length-kept = verdict-case (λ v. length (written v result out) ≡ length out) (verdict checks) (λ e. start-length result out (fits e)) (λ _ _ _. refl);
  }

-- ---- An entry point that counts what it writes

module _ {A : Type 0} {checks : List Check} {count : ℕ} {result out : List A} where
  -- a refusal that leaves the output as it was meets the contract
  pub refused-done : {r : Counted} {k p : ℕ} → r ≡ counted (refused k p) 0 → verdict checks ≡ refused k p → Done checks count result out r out
  refused-done e v = record { answer = rw v e; output = rw v }

  -- so does the result where the checks accept
  pub accepted-done : {r : Counted} {after : List A} → r ≡ counted accepted count → after ≡ at_start result out → verdict checks ≡ accepted → Done checks count result out r after
  accepted-done e w v = record { answer = rw v e; output = rw v w }

  module _ {r : Counted} {after : List A} (d : Done checks count result out r after) where
    -- what its caller keeps
    pub kept : Numbered checks → (verdict checks ≡ accepted → length result ≤ length out) → Kept checks count result out r after
    kept numbered fits = rw (d.answer, d.output) (record {
      answers = answers checks numbered;
      leaves = leaves checks numbered result out fits;
      refused-count = λ h. rw (refused-is (verdict checks) h);
      done-count = λ e. rw ((accepts checks numbered).0 e);
    })

    -- there is no second outcome
    pub done-one-outcome : {s : Counted} {other : List A} → Done checks count result out s other → (r ≡ s) × (after ≡ other)
    done-one-outcome e = (one-outcome d.answer e.answer, one-outcome d.output e.output)

  -- nor a second result that tells it
  pub done-one-result : {r s : Result ℕ Refusal} {after other : List A} → Done checks count result out (told r) after → Done checks count result out (told s) other → (r ≡ s) × (after ≡ other)
  done-one-result {r} {s} d e = let o = done-one-outcome d e in (told-apart r s o.0, o.1)
