-- What a caller keeps of whatever meets the contract of the reader.
use Prim.Native.Nat.{ℕ, ◌*◌, ◌/◌, ◌≤◌}
use native.Mathlib.Omega.{arith}
use mathlib.Core.Path.{◌≡◌, refl, ap}
use mathlib.Core.Logic.{◌≢◌, ◌↔◌}
use mathlib.Core.List.{List, [], ◌∷◌, ◌++◌}
use lib.ListN.{length, take}
use lib.IntN.{ℤ}
use Rattle.plane.specs.Words.{flat_points, most_points}
use Rattle.plane.proofs.Arrays.{length-flat-points}
use Rattle.plane.proofs.AtStart.{points-layout, first-numbers}
use Rattle.entry.specs.Entry.{number_in, Kept, Counted}
use Rattle.entry.specs.Checks.{Check, accepted, refused, verdict}
use Rattle.entry.proofs.Verdicts.{verdict-case, accepted-clear, clear-append, verdict-append}
use Rattle.entry.proofs.Entry.{Numbered, counted-accepted, kept}
use Rattle.rule.specs.Rows.{ROOM}
use Rattle.rule.proofs.Rows.{many-clear, room-clear}
use Rattle.reading.specs.Lines.{lines_of}
use Rattle.reading.specs.Reading.{points_read, text_checks, read_checks, ReadDone}
use Rattle.reading.proofs.Lines.{points-all}

-- ---- What the checks accept

-- each line of a text that is accepted has a point
pub lines-are-points : (t : List ℕ) → verdict (text_checks t) ≡ accepted → length (points_read t) ≡ length (lines_of t)
unfolding text_checks
lines-are-points t e = points-all (lines_of t) ((accepted-clear (text_checks t)).0 e).1.0

-- and they are not too many
pub lines-few : (t : List ℕ) → verdict (text_checks t) ≡ accepted → length (lines_of t) ≤ most_points
unfolding text_checks
lines-few t e = (many-clear most_points (length (lines_of t))).0 ((accepted-clear (text_checks t)).0 e).1.1.0

module _ (t : List ℕ) (out : ℕ) where
  -- with an output the checks accept exactly the accepted texts whose points have room
  read-accepts : (verdict (read_checks t out) ≡ accepted) ↔ ((verdict (text_checks t) ≡ accepted) × (length (lines_of t) ≤ out / 2))
  unfolding read_checks
  read-accepts =
      let last : List Check = ROOM (length (lines_of t)) (out / 2) ∷ [] in (
        λ e. let c = (clear-append (text_checks t) last).0 ((accepted-clear (text_checks t ++ last)).0 e) in ((accepted-clear (text_checks t)).1 c.0, (room-clear (length (lines_of t)) (out / 2)).0 c.1.0),
        λ h. (accepted-clear (text_checks t ++ last)).1 ((clear-append (text_checks t) last).1 ((accepted-clear (text_checks t)).0 h.0, ((room-clear (length (lines_of t)) (out / 2)).1 h.1, tt))),
      )

  read-numbered : Numbered (read_checks t out)
  unfolding read_checks text_checks
  read-numbered = omega arith

-- ---- What the reader leaves

-- the text is accepted, and its points are counted and stand at the output's start
pub record AllRead (t : List ℕ) (r : Counted) (out-after : List ℤ) : Type 0 where
  pub accepts : verdict (text_checks t) ≡ accepted
  pub few : r.count ≤ most_points
  pub fits : 2 * r.count ≤ length out-after
  pub numbers : take (2 * r.count) out-after ≡ flat_points (points_read t)

module _ (t : List ℕ) {out : List ℤ} {r : Counted} {out-after : List ℤ} (d : ReadDone t out r out-after) where
  -- the reader answers what its checks give, with the count of points, and leaves the points at the output's start
  pub read_kept : Kept (read_checks t (length out)) (length (points_read t)) (flat_points (points_read t)) out r out-after
  read_kept = kept d (read-numbered t (length out)) (λ e.
      let a = (read-accepts t (length out)).0 e in
      omega (arith, length-flat-points (points_read t), lines-are-points t a.0, a.1))

  -- on 0 the points are read
  pub read_done : r.answer ≡ 0 → AllRead t r out-after
  read_done e =
      let ps = points_read t in
      let a = (read-accepts t (length out)).0 (counted-accepted (read_checks t (length out)) (read-numbered t (length out)) (length ps) d.answer e) in
      let n = read_kept.done-count e in
      let l = lines-are-points t a.0 in
      record {
        accepts = a.0;
        few = omega (arith, lines-few t a.0);
        fits = omega (arith, a.1, read_kept.leaves.length-kept);
        numbers = first-numbers points-layout ps n (read_kept.leaves.done-starts e);
      }

  -- on a refusal with room for every text that is accepted, the text is refused
  pub read-refused : 8192 ≤ length out → r.answer ≢ 0 → verdict (text_checks t) ≡ refused r.answer r.place
  unfolding read_checks
  read-refused room n = verdict-case (λ v. verdict (text_checks t) ≡ v → v ≡ refused r.answer r.place) (verdict (text_checks t))
      (λ _ e. absurd (n (rw d.answer (ap number_in ((read-accepts t (length out)).1 (e, omega (arith, lines-few t e)))))))
      (λ k p _ e. rw (d.answer, verdict-append (text_checks t) (ROOM (length (lines_of t)) (length out / 2) ∷ []), e)) refl
