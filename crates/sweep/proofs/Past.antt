-- Working arrays of which only the start is changed, and the start zeroed.
use Prim.Native.Nat.{ℕ, ◌+◌, ◌-◌, ◌*◌, ◌≤◌}
use native.Mathlib.Omega.{arith}
use mathlib.Core.Path.{◌≡◌, refl, sym, ap, ◌∙◌}
use mathlib.Core.List.{List, [], ◌++◌}
use lib.ListN.{drop, replicate, length-replicate}
use lib.Seq.{drop-drop}
use lib.IntN.{ℤ, pos}
use Rattle.plane.specs.declared.Rect.{Rect}
use Rattle.plane.specs.Words.{rect_size}
use Rattle.rule.specs.Working.{work_of}
use Rattle.rule.proofs.Working.{padded-none}
use Rattle.live.specs.declared.Live.{Live}
use Rattle.sweep.specs.Inner.{put_four, put_rect, live_size, put_live, KeptPast}
use Rattle.sweep.proofs.Lives.{length-put, drop-put}

-- an array is kept as it was
pub kept-all : {n : ℕ} {a : List ℤ} → KeptPast n a a
kept-all = record { same_length = refl; same-past = refl }

-- changed twice, only the start is changed
pub kept_on : {n : ℕ} {u v w : List ℤ} → KeptPast n u v → KeptPast n v w → KeptPast n u w
kept_on p q = record { same_length = q.same_length ∙ p.same_length; same-past = q.same-past ∙ p.same-past }

-- what is kept past a place is kept past a later one
pub kept-further : {m n : ℕ} {before after : List ℤ} → m ≤ n → KeptPast m before after → KeptPast n before after
kept-further {m} {n} {before} {after} h k = record { same_length = k.same_length; same-past = further after ∙ ap (drop (n - m)) k.same-past ∙ sym (further before) }
  where
    further : (l : List ℤ) → drop n l ≡ drop (n - m) (drop m l)
    further l = let e : n ≡ m + (n - m) = omega arith in ap (λ (i : ℕ). drop i l) e ∙ sym (drop-drop (n - m) m l)

-- four numbers put at a place change only what is up to them
kept-four : (n : ℕ) (a : List ℤ) (i : ℕ) (p q r s : ℤ) → i + 4 ≤ n → KeptPast n a (put_four a i p q r s)
kept-four n a i p q r s h = record { same_length = length-put a i p q r s; same-past = drop-put a i p q r s n h }

-- so does a rectangle
pub kept-rect : (n : ℕ) (a : List ℤ) (i : ℕ) (r : Rect) → rect_size * (i + 1) ≤ n → KeptPast n a (put_rect a i r)
kept-rect n a i r h = kept-four n a (rect_size * i) r.x r.y r.w r.h (omega arith)

-- and a live one
pub kept-live : (n : ℕ) (a : List ℤ) (i : ℕ) (k : Live) → live_size * (i + 1) ≤ n → KeptPast n a (put_live a i k)
kept-live n a i k h = kept-four n a (live_size * i) k.left k.right k.row k.place (omega arith)

-- with its start zeroed it holds no points
pub kept-drained : {m n : ℕ} {before after : List ℤ} → m ≤ n → KeptPast (2 * m) before after → replicate (2 * n) (pos 0) ++ drop (2 * n) after ≡ work_of n [] before
unfolding work_of
kept-drained {m} {n} h k = rw (padded-none n, length-replicate (2 * n) (pos 0), (kept-further {n = 2 * n} (omega arith) k).same-past) refl
