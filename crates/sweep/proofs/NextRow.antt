-- A sweep whose row is done turns to the next point's row, or ends where no point is to come.
use Rattle.std.specs.Prelude.{Option, Some, None}
use Rattle.std.proofs.lemmas.Option.{none-some, same_Some}
use mathlib.Core.Path.{◌≡◌, refl, sym, ap, subst, ◌∙◌}
use mathlib.Core.Logic.{◌⊎◌, inl, inr}
use Prim.Native.Nat.{ℕ, zero, suc, ◌+◌, ◌-◌, ◌<◌, ◌≤◌}
use native.Mathlib.Omega.{arith}
use mathlib.Core.Bool.{true, false}
use mathlib.Core.List.Memᴰ.{head}
use mathlib.Core.List.Memᴰ.{not-nil}
use mathlib.Core.List.{List, [], ◌∷◌, ◌++◌, append_assoc, Memᴰ as In}
use lib.ListN.{length, get_or, take, drop, length-drop}
use lib.Seq.{length-take-le, take-suc, take-take, take-add, take-append-add, split_at, get_or-take}
use lib.IntN.{ℤ}
use lib.Signed.{le_z, lt_z}
use Rattle.plane.specs.declared.Point.{Point}
use Rattle.plane.specs.Lists.{bit}
use Rattle.plane.specs.Words.{eq_z}
use Rattle.plane.proofs.Sums.{all-last-added}
use Rattle.plane.proofs.Bools.{by-no}
use Rattle.plane.proofs.Order.{order, eq_z-is, eq_z-refl}
use Rattle.plane.proofs.Places.{in-at, stretch-start}
use Rattle.live.specs.declared.Live.{Live}
use Rattle.live.specs.Stands.{far, next_on, stand, Apart, Sweeping}
use Rattle.live.proofs.Shown.{point-far, live-wide, apart-left}
use Rattle.live.proofs.Crossing.{turns, ends}
use Rattle.sweep.specs.declared.Sweep.{Sweep}
use Rattle.sweep.specs.Inner.{lives_of, zero_live, live_at, Turned, room_for, rest_of, passed_in, ahead_in, Underway, GoesOn, AllGiven}
use Rattle.sweep.proofs.Lives.{length-lives}
use Rattle.sweep.proofs.Past.{kept-all, kept-further}
use Rattle.sweep.proofs.Places.{next_of}
use Rattle.sweep.proofs.Going.{there-most, room-half}

-- ---- Those that are ahead again

-- those passed, and those ahead, before the last of the passed ones are ahead again and then: the same in the same order
same-order : (l l' : List Live) (p p' h h' back m : ℕ) → p' + back ≡ p → h' + back ≡ h → p ≤ length l → h ≤ m → drop h' l' ≡ take back (drop p' l) ++ drop h l → take p' l ++ drop h' (take m l') ≡ take p l ++ drop h (take m l)
same-order l l' p p' h h' back m fewer more within most again =
    let X : List Live = take back (drop p' l) in
    let few : length X ≡ back = length-take-le back (drop p' l) (omega (arith, length-drop p' l)) in
    let many : m - h' ≡ length X + (m - h) = omega arith in
    let ahead : drop h' (take m l') ≡ X ++ drop h (take m l) = stretch-start l' h' m ∙ rw (again, many) (take-append-add X (drop h l) (m - h)) ∙ ap (λ (r : List Live). X ++ r) (sym (stretch-start l h m)) in
    let passed : take p l ≡ take p' l ++ X = rw (← fewer) (take-add p' back l) in
    rw (ahead, passed) (sym (append_assoc (take p' l) X (drop h (take m l))))

module _ {qs : List Point} {work : List ℤ} {z : Sweep} (u : Underway qs work z far) where
  -- the array has all those that are passed
  passed-few : z.passed ≤ length (lives_of work)
  passed-few = omega (arith, length-lives work, u.passed-within, u.ahead_within, u.ready.working)

  -- of those passed, all up to one that is left of a point are left of it
  still-left : (p : Point) (n : ℕ) → n ≤ z.passed → (n ≡ 0) ⊎ (le_z (live_at work (n - 1)).right p.x ≡ true) → (k : Live) → In k (take n (lives_of work)) → le_z k.right p.x ≡ true
  still-left p zero h last k m = absurd (not-nil m)
  still-left p (suc i) h (inl none) k m = absurd (omega arith)
  still-left p (suc i) h (inr left) k m =
      let many : i < length l = omega (arith, passed-few) in
      let last : le_z x.right p.x ≡ true = let e : suc i - 1 ≡ i = omega arith in rw e at left in
      all-last-added (λ j. le_z j.right p.x ≡ true) (take i l) x (λ j n. omega (order, apart-left x _ (take i l) rising j n, wide)) last k (subst (λ (r : List Live). In k r) (take-suc l i zero_live many) m)
    where
      l : List Live
      l = lives_of work

      x : Live
      x = live_at work i

      A : List Live
      A = passed_in work z

      few : i < length A
      few = omega (arith, length-take-le z.passed l passed-few)

      at : get_or A i zero_live ≡ x
      at = get_or-take z.passed l i zero_live (omega arith)

      wide : lt_z x.left x.right ≡ true
      wide = live-wide u.ready.points u.sweeping.given-few (u.sweeping.passed-live x (subst (λ j. In j A) at (in-at A i zero_live few)))

      rising : Apart (take i l ++ (x ∷ (drop (suc i) A ++ ahead_in qs work z)))
      rising =
          let parts : A ≡ take i l ++ (x ∷ drop (suc i) A) = split_at A i zero_live few ∙ rw (at, take-take i z.passed l (omega arith)) in
          subst Apart (ap (λ (r : List Live). r ++ ahead_in qs work z) parts ∙ append_assoc (take i l) (x ∷ drop (suc i) A) (ahead_in qs work z)) u.sweeping.apart

  -- ---- The next row

  -- turned to the next point's row
  goes-turned : (p : Point) (later : List Point) → rest_of qs z ≡ p ∷ later → eq_z p.y z.row ≡ false → eq_z z.carried far ≡ true → {r : Sweep} {after : List ℤ} → Turned p z work r after → GoesOn qs z work r after
  goes-turned p later e off none {r} {after} t =
      let half = room-half qs u.ready.points in
      let within = u.ahead_within in
      let fit = u.passed-within in
      let fewer = t.fewer in
      let more = t.more in
      subst (λ (s : Sweep). GoesOn qs z work s after) (sym t.at-row) (record {
        kept = kept-further (omega arith) t.kept-past;
        underway = record {
          ready = rw t.kept-past.same_length u.ready;
          next-within = u.next-within;
          passed-within = omega arith;
          ahead_within = omega arith;
          carried-near = u.carried-near;
          room = let m = u.room in omega arith;
          sweeping = rw (t.still-passed, e, c, v.0) v.1;
        };
        less = omega (arith, not-here, here, u.ready.few, there-most z.carried);
        balance = λ w. rw (t.still-passed, same-lives);
      })
    where
      C : List Live
      C = take r.passed (lives_of work)

      D : List Live
      D = drop r.ahead (take (room_for qs) (lives_of after))

      same-lives : C ++ D ≡ passed_in work z ++ ahead_in qs work z
      same-lives = same-order (lives_of work) (lives_of after) z.passed r.passed z.ahead r.ahead t.back (room_for qs) t.fewer t.more passed-few u.ahead_within t.ahead-again

      c : z.carried ≡ far
      c = eq_z-is z.carried far none

      w : Sweeping qs (stand (p ∷ later) z.row far z.opened far z.given (passed_in work z) (ahead_in qs work z))
      w = rw (e, c) at u.sweeping

      v : (z.opened ≡ far) × Sweeping qs (stand (p ∷ later) p.y far far far z.given C D)
      v = turns u.ready.points w off C D same-lives (still-left p r.passed (omega (arith, t.fewer)) t.last-left)

      not-here : bit (eq_z (next_on z.row (rest_of qs z)) far) ≡ 1
      not-here = rw (e, off, eq_z-refl far)

      here : bit (eq_z (next_on p.y (rest_of qs z)) far) ≡ 0
      here = let n : eq_z p.x far ≡ false = let l = point-far p (w.rest-range p (head refl)) in omega order in rw (e, eq_z-refl p.y, n)

  -- ---- The end

  -- with no point to come, the list is whole
  goes-no-further : rest_of qs z ≡ [] → eq_z z.carried far ≡ true → AllGiven qs z work work
  goes-no-further e none =
      let w : Sweeping qs (stand [] z.row far z.opened far z.given (passed_in work z) (ahead_in qs work z)) = rw (e, eq_z-is z.carried far none) at u.sweeping in
      let d = ends u.ready.points w in
      record { kept = kept-all; none-live = d.1; all-begun = d.2 }

-- ---- Nothing is to come on the row

-- a sweep under way, with the next point p and t that of the row, has neither t nor a right end to put
pub record RowDone (qs : List Point) (work : List ℤ) (z : Sweep) (p : Option Point) (t : ℤ) : Type 0 where
  pub underway : Underway qs work z far
  pub next-is : p ≡ next_of (rest_of qs z)
  pub at_next : t ≡ next_on z.row (rest_of qs z)
  pub none-waits : eq_z t z.carried ≡ true
  pub none-there : eq_z t far ≡ true

module _ {qs : List Point} {work : List ℤ} {z : Sweep} {p : Option Point} {t : ℤ} (d : RowDone qs work z p t) where
  -- none is carried
  none : eq_z z.carried far ≡ true
  none = let same = d.none-waits in let far-off = d.none-there in omega order

  -- where there is a next point, the sweep turns to its row
  pub turns-on : {q : Point} → p ≡ Some q → {r : Sweep} {after : List ℤ} → Turned q z work r after → GoesOn qs z work r after
  turns-on {q} some {r} {after} turned = go (rest_of qs z) refl
    where
      go : (rest : List Point) → rest_of qs z ≡ rest → GoesOn qs z work r after
      go [] e = absurd (none-some q (sym (d.next-is ∙ ap next_of e) ∙ some))
      go (p' ∷ later) e =
          let f : q ≡ p' = same_Some q p' (sym some ∙ d.next-is ∙ ap next_of e) in
          let off : eq_z q.y z.row ≡ false = by-no (eq_z q.y z.row) (λ on. let n : t ≡ q.x = d.at_next ∙ rw (e, ← f, on) in let l = point-far q (d.underway.sweeping.rest-range q (subst (λ (rest : List Point). In q rest) (sym e) (head f))) in let gone = d.none-there in absurd (omega order)) in
          goes-turned d.underway q later (e ∙ ap (λ (h : Point). h ∷ later) (sym f)) off none turned

  -- where there is none, it ends
  pub stops : p ≡ None → AllGiven qs z work work
  stops gone = go (rest_of qs z) refl
    where
      go : (rest : List Point) → rest_of qs z ≡ rest → AllGiven qs z work work
      go [] e = goes-no-further d.underway e none
      go (q ∷ later) e = absurd (none-some q (sym gone ∙ d.next-is ∙ ap next_of e))
