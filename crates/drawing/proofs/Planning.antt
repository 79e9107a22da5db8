-- How a frame grows point by point.
use mathlib.Core.Path.{◌≡◌, refl, sym, ◌∙◌}
use mathlib.Core.List.{List, [], ◌∷◌}
use mathlib.Core.Bool.{Bool, false, xor}
use Rattle.std.specs.List.{fold}
use Rattle.plane.specs.Lists.{odd}
use Rattle.plane.proofs.Bools.{xor-false, false-xor, xor_assoc}
use Rattle.plane.specs.declared.Point.{Point}
use Rattle.drawing.specs.declared.plan.Frame.{Frame}
use Rattle.drawing.specs.Plan.{about, widened, widened_by, frame_of}

-- without points all ends are 0
pub frame-none : (f : Frame) (ps : List Point) → ps ≡ [] → (f.left ≡ 0) × ((f.right ≡ 0) × ((f.bottom ≡ 0) × (f.top ≡ 0))) → f ≡ frame_of ps
unfolding frame_of
frame-none f ps e h =
    let zeros : record { left = f.left; right = f.right; bottom = f.bottom; top = f.top } ≡ record { left = 0; right = 0; bottom = 0; top = 0 } = rw (h.0, h.1.0, h.1.1.0, h.1.1.1) refl in
    rw e zeros

-- a frame is widened by one point after another
widened-fold : (f : Frame) (ps : List Point) → fold widened f ps ≡ widened_by f ps
unfolding widened_by
widened-fold f [] = refl
widened-fold f (p ∷ ps) = widened-fold (widened f p) ps

-- the frame of some points begins with the first
pub frame-fold : (ps : List Point) (p : Point) (rest : List Point) → ps ≡ p ∷ rest → fold widened (about p) rest ≡ frame_of ps
unfolding frame_of
frame-fold ps p rest e = widened-fold (about p) rest ∙ rw e refl

-- a parity is turned by each element that passes
odd-from : {A : Type 0} (f : A → Bool) (b : Bool) (l : List A) → fold (λ t a. xor t (f a)) b l ≡ xor b (odd f l)
unfolding odd
odd-from f b [] = sym (xor-false b)
odd-from f b (a ∷ l) = odd-from f (xor b (f a)) l ∙ xor_assoc b (f a) (odd f l)

pub odd-fold : {A : Type 0} (f : A → Bool) (l : List A) → fold (λ t a. xor t (f a)) false l ≡ odd f l
odd-fold f l = odd-from f false l ∙ false-xor (odd f l)
