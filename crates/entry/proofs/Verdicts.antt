-- The table of refusals, read exactly: when a check is given, and what the verdict over checks in order says of them, both ways.
use mathlib.Core.Path.{◌≡◌, refl, sym, subst}
use mathlib.Core.Logic.{◌↔◌, ◌≢◌}
use Prim.Native.Nat.{ℕ, ◌≤◌, ◌<◌}
use native.Mathlib.Omega.{arith}
use mathlib.Core.Bool.{Bool, true, false, cond}
use mathlib.Core.List.{List, [], ◌∷◌, ◌++◌}
use lib.Dec.{ltb}
use borrow.Author.Tests.{ltb-true, lt-ltb, le-ltb}
use Rattle.plane.proofs.Bools.{clash}
use Rattle.entry.specs.Checks.{Check, whole, each, met, Given, by_whole, by-item, by-fault, FirstMet, here, next, FirstGiven, this, later, needs, first_bad, first_said, Verdict, accepted, refused, or_later, judged, verdict}
use Rattle.entry.proofs.Search.{NoneBelow, Found, at, nowhere, first_found}

-- ---- A verdict

-- a verdict that is a refusal is not accepted
not-both : {X : Type 0} {v : Verdict} {k p : ℕ} → v ≡ refused k p → v ≡ accepted → X
not-both d e = let z : ◌≡◌ {A = ℕ} 0 1 = cc in absurd (omega arith)

-- what holds of both cases holds of a verdict
pub verdict-case : (P : Verdict → Type 0) (v : Verdict) → (v ≡ accepted → P accepted) → ((k p : ℕ) → v ≡ refused k p → P (refused k p)) → P v
verdict-case P accepted h g = h refl
verdict-case P (refused k p) h g = g k p refl

-- ---- A check alone

-- all is accepted
abbrev AllAccepted : List Verdict → Type 0
AllAccepted [] = Unit
AllAccepted (v ∷ says) = (v ≡ accepted) × AllAccepted says

-- no fault is met then
none-met : {says : List Verdict} {k p : ℕ} → AllAccepted says → FirstMet says k p → ⊥
none-met h here = not-both refl h.0
none-met h (next m) = none-met h.1 m

-- one fault is the first
met-unique : {says : List Verdict} {k p j q : ℕ} → FirstMet says k p → FirstMet says j q → (k ≡ j) × (p ≡ q)
met-unique here here = (refl, refl)
met-unique (next m) (next n) = met-unique m n

-- nothing of the check offends
abbrev pub Clear : Check → Type 0
Clear (whole k p t) = t ≡ false
Clear (each k n t) = NoneBelow n t
Clear (met says) = AllAccepted says

-- a clear check is given nowhere
clear-given : {c : Check} {k p : ℕ} → Clear c → Given c k p → ⊥
clear-given h (by_whole e) = clash e h
clear-given h (by-item i l e f) = clash e (h i l)
clear-given h (by-fault m) = none-met h m

-- what a check says by itself
data Says (c : Check) : Verdict → Type 0 where
  gives : {k p : ℕ} → Given c k p → Says c (refused k p)
  passes : Clear c → Says c accepted

check-says : (c : Check) → Says c (judged c)
unfolding judged first_said
check-says (whole k p true) = gives (by_whole refl)
check-says (whole k p false) = passes refl
check-says (each k n t) = go (first_found n t)
  where
    go : {i : ℕ} → Found n t i → Says (each k n t) (cond (ltb i n) (refused k i) accepted)
    go (at {i} h e f) = rw (lt-ltb i n h) (gives (by-item i h e f))
    go (nowhere f) = rw (le-ltb n n (omega arith)) (passes f)
check-says (met []) = passes tt
check-says (met (refused k p ∷ says)) = gives (by-fault here)
check-says (met (accepted ∷ says)) = go (check-says (met says))
  where
    go : {v : Verdict} → Says (met says) v → Says (met (accepted ∷ says)) v
    go (gives (by-fault m)) = gives (by-fault (next m))
    go (passes h) = passes (refl, h)

-- a check is given at one place, with one number
given-unique : {c : Check} {k p j q : ℕ} → Given c k p → Given c j q → (k ≡ j) × (p ≡ q)
given-unique (by_whole d) (by_whole e) = (refl, refl)
given-unique (by-item i h e f) (by-item j k d g) =
    let a : ¬ (i < j) = λ l. clash e (g i l) in
    let b : ¬ (j < i) = λ l. clash d (f j l) in
    (refl, omega arith)
given-unique (by-fault m) (by-fault n) = met-unique m n

-- nothing of a check offends exactly when it is given nowhere
pub clear-exactly : (c : Check) → Clear c ↔ ((k p : ℕ) → Given c k p → ⊥)
clear-exactly c = (λ h k p g. clear-given h g, back (check-says c))
  where
    back : {v : Verdict} → Says c v → ((k p : ℕ) → Given c k p → ⊥) → Clear c
    back (gives {k} {p} g) n = absurd (n k p g)
    back (passes h) n = h

-- ---- Rows in order

-- every check is as told
abbrev pub Every : (Check → Type 0) → List Check → Type 0
Every Q [] = Unit
Every Q (c ∷ checks) = Q c × Every Q checks

-- nothing of any check offends
abbrev pub AllClear : List Check → Type 0
AllClear checks = Every Clear checks

-- what a verdict says of the checks
data Read (checks : List Check) : Verdict → Type 0 where
  all_pass : AllClear checks → Read checks accepted
  one-refuses : {k p : ℕ} → FirstGiven checks k p → Read checks (refused k p)

checks-read : (checks : List Check) → Read checks (verdict checks)
unfolding verdict
checks-read [] = all_pass tt
checks-read (c ∷ checks) = go (check-says c) (checks-read checks)
  where
    go : {u v : Verdict} → Says c u → Read checks v → Read (c ∷ checks) (or_later u v)
    go (gives g) w = one-refuses (this g)
    go (passes h) (all_pass w) = all_pass (h, w)
    go (passes h) (one-refuses f) = one-refuses (later (λ j q. clear-given h) f)

-- no checks accept
pub verdict-none : verdict [] ≡ accepted
unfolding verdict
verdict-none = refl

-- after a check, what later ones say matters only where nothing of it offends
pub verdict-after : (c : Check) (checks others : List Check) → (Clear c → verdict checks ≡ verdict others) → verdict (c ∷ checks) ≡ verdict (c ∷ others)
unfolding verdict
verdict-after c checks others h = go (check-says c)
  where
    go : {v : Verdict} → Says c v → or_later v (verdict checks) ≡ or_later v (verdict others)
    go (gives g) = refl
    go (passes clear) = h clear

-- a refusal that depends on a test, or else what comes later
cond-later : (b : Bool) (k p : ℕ) (rest : Verdict) → or_later (cond b (refused k p) accepted) rest ≡ cond b (refused k p) rest
cond-later true k p rest = refl
cond-later false k p rest = refl

-- a check of the whole refuses exactly where it offends
pub verdict-whole : (k p : ℕ) (t : Bool) (checks : List Check) → verdict (whole k p t ∷ checks) ≡ cond t (refused k p) (verdict checks)
unfolding verdict judged
verdict-whole k p t checks = cond-later t k p (verdict checks)

-- a check of n items exactly where its place is below n
pub verdict-each : (k n : ℕ) (t : ℕ → Bool) (checks : List Check) → let i = first_bad n t in verdict (each k n t ∷ checks) ≡ cond (ltb i n) (refused k i) (verdict checks)
unfolding verdict judged
verdict-each k n t checks = cond-later (ltb (first_bad n t) n) k (first_bad n t) (verdict checks)

-- one of which nothing offends passes to the later ones
pub verdict-passes : (c : Check) (checks : List Check) → Clear c → verdict (c ∷ checks) ≡ verdict checks
unfolding verdict
verdict-passes c checks h = go (check-says c)
  where
    go : {v : Verdict} → Says c v → or_later v (verdict checks) ≡ verdict checks
    go (gives g) = absurd (clear-given h g)
    go (passes _) = refl

-- and one of n items, where not all pass, refuses the first that does not
pub verdict-offends : (k n : ℕ) (t : ℕ → Bool) (checks : List Check) → (NoneBelow n t → ⊥) → verdict (each k n t ∷ checks) ≡ refused k (first_bad n t)
verdict-offends k n t checks h = rw (verdict-each k n t checks) (go (first_found n t))
  where
    go : {i : ℕ} → Found n t i → cond (ltb i n) (refused k i) (verdict checks) ≡ refused k i
    go (at {i} l e f) = rw (lt-ltb i n l)
    go (nowhere f) = absurd (h f)

-- one row is given first, at one place
pub first-unique : {checks : List Check} {k p j q : ℕ} → FirstGiven checks k p → FirstGiven checks j q → (k ≡ j) × (p ≡ q)
first-unique (this g) (this h) = given-unique g h
first-unique (this g) (later n f) = absurd (n _ _ g)
first-unique (later n f) (this g) = absurd (n _ _ g)
first-unique (later n f) (later m g) = first-unique f g

-- and what holds wherever a check that is as told is given holds there
first-as : {checks : List Check} {k p : ℕ} (Q : Check → Type 0) (R : ℕ → ℕ → Type 0) → ((c : Check) (j q : ℕ) → Q c → Given c j q → R j q) → Every Q checks → FirstGiven checks k p → R k p
first-as Q R law h (this g) = law _ _ _ h.0 g
first-as Q R law h (later n f) = first-as Q R law h.1 f

-- none is given where nothing offends
clear_first : {checks : List Check} {k p : ℕ} → AllClear checks → FirstGiven checks k p → ⊥
clear_first = first-as Clear (λ j q. ⊥) (λ c j q. clear-given)

-- the answer is number k at place p exactly when row k of the table is given at p and no earlier row of the order is given
pub refused-exactly : (checks : List Check) (k p : ℕ) → (verdict checks ≡ refused k p) ↔ FirstGiven checks k p
refused-exactly checks k p = (λ e. go (subst (Read checks) e (checks-read checks)), back (checks-read checks))
  where
    go : Read checks (refused k p) → FirstGiven checks k p
    go (one-refuses f) = f

    back : {v : Verdict} → Read checks v → FirstGiven checks k p → v ≡ refused k p
    back (one-refuses g) f = let e = first-unique g f in rw (e.0, e.1)
    back (all_pass h) f = absurd (clear_first h f)

-- the input is accepted exactly when nothing of any check offends
pub accepted-clear : (checks : List Check) → (verdict checks ≡ accepted) ↔ AllClear checks
accepted-clear checks = (λ e. go (subst (Read checks) e (checks-read checks)), back (checks-read checks))
  where
    go : Read checks accepted → AllClear checks
    go (all_pass h) = h

    back : {v : Verdict} → Read checks v → AllClear checks → v ≡ accepted
    back (one-refuses f) h = absurd (clear_first h f)
    back (all_pass g) h = refl

-- and exactly when no row is given
pub accepted-exactly : (checks : List Check) → (verdict checks ≡ accepted) ↔ ((k p : ℕ) → FirstGiven checks k p → ⊥)
accepted-exactly checks = (λ e k p f. not-both ((refused-exactly checks k p).1 f) e, back (checks-read checks))
  where
    back : {v : Verdict} → Read checks v → ((k p : ℕ) → FirstGiven checks k p → ⊥) → v ≡ accepted
    back (all_pass h) n = refl
    back (one-refuses {k} {p} f) n = absurd (n k p f)

-- ---- Checks after checks

-- a check that is given after checks of which nothing offends is the first given
given-first : (checks : List Check) {c : Check} (more : List Check) {k p : ℕ} → AllClear checks → Given c k p → FirstGiven (checks ++ (c ∷ more)) k p
given-first [] more h g = this g
given-first (s ∷ checks) more h g = later (λ j q. clear-given h.0) (given-first checks more h.1 g)

pub clear-append : (checks more : List Check) → AllClear (checks ++ more) ↔ (AllClear checks × AllClear more)
clear-append [] more = (λ h. (tt, h), λ h. h.1)
clear-append (c ∷ checks) more =
    let ih = clear-append checks more in
    (λ h. ((h.0, (ih.0 h.1).0), (ih.0 h.1).1), λ h. (h.0.0, ih.1 (h.0.1, h.1)))

-- the verdict of the first ones, or else that of the later ones
pub verdict-append : (checks more : List Check) → verdict (checks ++ more) ≡ or_later (verdict checks) (verdict more)
unfolding verdict
verdict-append [] more = refl
verdict-append (c ∷ checks) more = rw (verdict-append checks more) (verdict-case (λ v. or_later v (or_later (verdict checks) (verdict more)) ≡ or_later (or_later v (verdict checks)) (verdict more)) (judged c) (λ _. refl) (λ _ _ _. refl))

-- ---- The numbers and the places of checks

-- every number that a check can give is as told
abbrev NumberIs : (ℕ → Type 0) → Check → Type 0
NumberIs P (whole k p t) = P k
NumberIs P (each k n t) = P k
NumberIs P (met says) = (k p : ℕ) → FirstMet says k p → P k

-- those of all checks are
abbrev pub Numbers : (ℕ → Type 0) → List Check → Type 0
Numbers P checks = Every (NumberIs P) checks

number-given : {c : Check} {k p : ℕ} (P : ℕ → Type 0) → NumberIs P c → Given c k p → P k
number-given P n (by_whole e) = n
number-given P n (by-item i h e f) = n
number-given P n (by-fault {k = k} {p = p} m) = n k p m

-- a refusal's number is as told
pub refused-number : (checks : List Check) {k p : ℕ} (P : ℕ → Type 0) → Numbers P checks → verdict checks ≡ refused k p → P k
refused-number checks {k} {p} P n e = first-as (NumberIs P) (λ j q. P j) (λ c j q. number-given P) n ((refused-exactly checks k p).0 e)

-- a check's places do not go past n
abbrev PlaceWithin : (n : ℕ) → Check → Type 0
PlaceWithin n (whole k p t) = p ≤ n
PlaceWithin n (each k m t) = m ≤ n
PlaceWithin n (met says) = (k p : ℕ) → FirstMet says k p → p ≤ n

-- nor do those of any check
abbrev pub PlacesWithin : (n : ℕ) → List Check → Type 0
PlacesWithin n checks = Every (PlaceWithin n) checks

place-given : (n : ℕ) {c : Check} {k p : ℕ} → PlaceWithin n c → Given c k p → p ≤ n
place-given n h (by_whole e) = h
place-given n h (by-item i l e f) = omega arith
place-given n h (by-fault {k = k} {p = p} m) = h k p m

-- so the place that is given does not
pub place-within : {checks : List Check} {k p : ℕ} (n : ℕ) → PlacesWithin n checks → FirstGiven checks k p → p ≤ n
place-within n = first-as (PlaceWithin n) (λ j q. q ≤ n) (λ c j q. place-given n)

-- ---- The last check

-- where no earlier check has its number, the last check is the first given only if nothing of the earlier checks offends
last-given : (checks : List Check) (c : Check) {k p : ℕ} → Numbers (λ n. n ≢ k) checks → FirstGiven (checks ++ (c ∷ [])) k p → AllClear checks × Given c k p
last-given [] c n (this g) = (tt, g)
last-given [] c n (later h f) = elim f [ ]
last-given (s ∷ checks) c {k} n (this g) = absurd (number-given (λ m. m ≢ k) n.0 g refl)
last-given (s ∷ checks) c n (later h f) = let t = last-given checks c n.1 f in (((clear-exactly s).1 h, t.0), t.1)

need-given : {k j need room p : ℕ} → Given (needs k need room) j p → (p ≡ need) × (room < p)
need-given {need = need} {room = room} (by_whole e) = (refl, ltb-true room need e)

-- the last check lacks room, at p, exactly when p is the number needed, the room is less, and enough for p is accepted
pub lacks-room : {X : Type 0} (checks : List Check) (k need room enough p : ℕ) → Numbers (λ n. n ≢ k) checks → p ≤ enough → (verdict (checks ++ (needs k need enough ∷ [])) ≡ accepted) ↔ X → (verdict (checks ++ (needs k need room ∷ [])) ≡ refused k p) ↔ (X × (p ≡ need) × (room < p))
lacks-room {X} checks k need room enough p n fits x = (go, back)
  where
    last : ℕ → List Check
    last m = needs k need m ∷ []

    go : verdict (checks ++ last room) ≡ refused k p → X × (p ≡ need) × (room < p)
    go e =
        let t = last-given checks (needs k need room) n ((refused-exactly (checks ++ last room) k p).0 e) in
        let g = need-given t.1 in
        let h : need ≤ enough = omega (arith, g.0) in
        (x.0 ((accepted-clear (checks ++ last enough)).1 ((clear-append checks (last enough)).1 (t.0, (le-ltb enough need h, tt)))), g.0, g.1)

    back : X × (p ≡ need) × (room < p) → verdict (checks ++ last room) ≡ refused k p
    back h =
        let c = ((clear-append checks (last enough)).0 ((accepted-clear (checks ++ last enough)).0 (x.1 h.0))).0 in
        let l : room < need = omega (arith, h.1, h.2) in
        (refused-exactly (checks ++ last room) k p).1 (given-first checks [] c (subst (Given (needs k need room) k) (sym h.1) (by_whole (lt-ltb room need l))))
