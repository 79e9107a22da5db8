-- Document 01's plates to try, cases A to L, as one table: what is asked of the definitions, and what document 01 says.
use Rattle.std.specs.Prelude.{ℕ, ◌*◌, ◌/◌, ◌&&◌, List, [], ◌∷◌, ◌++◌, map, length, replicate, ℤ, pos}
use Rattle.std.proofs.Math.Option.{get_or}
use Rattle.std.specs.Int.Signed.{lt_z}
use Rattle.plane.specs.declared.Point.{Point}
use Rattle.plane.specs.declared.Rect.{Rect}
use Rattle.plane.specs.Lists.{any, sum}
use Rattle.plane.specs.Words.{low_end, high_end, points_of, flat_rects, area_of, rect_size}
use Rattle.rule.specs.Rule.{Taken, first_in, over, pick_k, pick_l, take_rect, run, enough}
use Rattle.rule.specs.ForwardCall.{forward_answer, forward_out, forward_work}
use Rattle.rule.specs.BackwardCall.{backward_answer, backward_out}
use Rattle.rule.specs.StepCall.{step_answer, step_work, step_number, step_place, step_values}

-- ---- What is asked

-- forward with room for so many rectangles, one step, backward with room for so many points, or the paper's own rule
pub data Asked : Type 0 where
  forward : (points : List ℤ) (room : ℕ) → Asked
  one_step : (points : List ℤ) → Asked
  backward : (rects : List ℤ) (room : ℕ) → Asked
  paper : (points : List ℤ) → Asked

-- the numbers that come back, and the lent arrays afterwards: the output, and the working array
pub record Said : Type 0 where
  pub numbers : List ℤ
  pub out : List ℤ
  pub work : List ℤ

-- lent arrays are full of sevens, so that what is untouched shows
abbrev pub sevens : ℕ → List ℤ
sevens n = replicate n (pos 7)

-- what is zeroed
abbrev pub zeros : ℕ → List ℤ
zeros n = replicate n (pos 0)

-- the paper's stop row: only a point with xK ≤ x < xL stops
unfoldable pub paper_m : Point → Point → List Point → ℤ
paper_m k l ps = (get_or (first_in (λ p. lt_z k.y p.y && any (over k.x l.x p.y) ps) ps) k).y

-- one step of the paper's rule
unfoldable pub paper_step : List Point → Taken
paper_step ps =
    let k : Point = pick_k ps in
    let l : Point = pick_l k ps in
    take_rect k l (paper_m k l ps) ps

-- the paper's list
unfoldable pub paper_list : List ℤ → List Rect
paper_list a = run paper_step (enough (points_of a)) (points_of a)

-- what the definitions answer
unfoldable pub gives : Asked → Said
gives (forward a room) =
    let r = forward_answer a (length a) (rect_size * room) in
    record {
      numbers = map pos (r.answer ∷ r.place ∷ r.count ∷ r.area ∷ r.edge ∷ []);
      out = forward_out a (length a) (sevens (rect_size * room));
      work = forward_work a (sevens (length a)) (rect_size * room);
    }
gives (one_step a) =
    let r = step_answer a (length a / 2) in
    record { numbers = pos (step_number r) ∷ pos (step_place r) ∷ step_values r; out = []; work = step_work a (length a / 2) }
gives (backward a room) =
    let r = backward_answer a (2 * room) in
    record { numbers = map pos (r.answer ∷ r.place ∷ r.count ∷ []); out = backward_out a (sevens (2 * room)); work = [] }
gives (paper a) = record { numbers = pos (sum area_of (paper_list a)) ∷ []; out = flat_rects (paper_list a); work = [] }

-- ---- The plates, as document 01 gives them

-- a square of one cell
abbrev pub plate_a : List ℤ
plate_a = map pos (0 ∷ 0 ∷ 1 ∷ 0 ∷ 0 ∷ 1 ∷ 1 ∷ 1 ∷ [])

-- a simple outline
abbrev pub plate_b : List ℤ
plate_b = map pos (0 ∷ 0 ∷ 4 ∷ 0 ∷ 4 ∷ 1 ∷ 8 ∷ 1 ∷ 8 ∷ 3 ∷ 4 ∷ 3 ∷ 4 ∷ 5 ∷ 1 ∷ 5 ∷ 1 ∷ 3 ∷ 0 ∷ 3 ∷ [])

-- B's list
abbrev pub list_b : List ℤ
list_b = map pos (0 ∷ 0 ∷ 4 ∷ 3 ∷ 4 ∷ 1 ∷ 4 ∷ 2 ∷ 1 ∷ 3 ∷ 3 ∷ 2 ∷ [])

-- bars crossing
abbrev pub plate_c : List ℤ
plate_c = map pos (3 ∷ 1 ∷ 5 ∷ 1 ∷ 3 ∷ 5 ∷ 5 ∷ 5 ∷ 0 ∷ 2 ∷ 10 ∷ 2 ∷ 0 ∷ 4 ∷ 10 ∷ 4 ∷ [])

-- a ring
abbrev pub plate_d : List ℤ
plate_d = map pos (0 ∷ 0 ∷ 4 ∷ 0 ∷ 0 ∷ 4 ∷ 4 ∷ 4 ∷ 1 ∷ 1 ∷ 3 ∷ 1 ∷ 1 ∷ 3 ∷ 3 ∷ 3 ∷ [])

-- two squares that touch at a corner, the corner left out
abbrev pub plate_e : List ℤ
plate_e = map pos (0 ∷ 0 ∷ 1 ∷ 0 ∷ 0 ∷ 1 ∷ 2 ∷ 1 ∷ 1 ∷ 2 ∷ 2 ∷ 2 ∷ [])

-- a corner missing
abbrev pub plate_g : List ℤ
plate_g = map pos (0 ∷ 0 ∷ 1 ∷ 0 ∷ 0 ∷ 1 ∷ [])

-- a corner out of its column
abbrev pub plate_h : List ℤ
plate_h = map pos (0 ∷ 0 ∷ 1 ∷ 0 ∷ 0 ∷ 1 ∷ 2 ∷ 1 ∷ [])

-- the two squares with the shared corner given twice
abbrev pub plate_i : List ℤ
plate_i = map pos (0 ∷ 0 ∷ 1 ∷ 0 ∷ 0 ∷ 1 ∷ 1 ∷ 1 ∷ 1 ∷ 1 ∷ 2 ∷ 1 ∷ 1 ∷ 2 ∷ 2 ∷ 2 ∷ [])

-- the extreme square, with its right side where it is told
abbrev pub plate_j : ℤ → List ℤ
plate_j side = low_end ∷ low_end ∷ side ∷ low_end ∷ low_end ∷ high_end ∷ side ∷ high_end ∷ []

-- one rectangle twice
abbrev pub list_l : List ℤ
list_l = map pos (0 ∷ 0 ∷ 1 ∷ 1 ∷ 0 ∷ 0 ∷ 1 ∷ 1 ∷ [])

-- ---- The table

-- a line: what is asked, and what document 01 says, the edge as request 1 has it and case I as request 2 does
pub record Case : Type 0 where
  pub asked : Asked
  pub says : Said

-- an accepted plate of n points: count, area, edge and the list
abbrev pub done : ℕ → ℕ → ℕ → ℕ → List ℤ → Said
done n count area edge list = record { numbers = map pos (0 ∷ 0 ∷ count ∷ area ∷ edge ∷ []); out = list; work = zeros (2 * n) }

-- a refusal with its number and place, and both lent arrays
abbrev pub refuses : ℕ → ℕ → List ℤ → List ℤ → Said
refuses number place out work = record { numbers = map pos (number ∷ place ∷ 0 ∷ 0 ∷ 0 ∷ []); out = out; work = work }

-- the lines
unfoldable pub cases : List Case
cases =
    -- A, with room to spare, and one step of it
    record { asked = forward plate_a 2; says = done 4 1 1 4 (map pos (0 ∷ 0 ∷ 1 ∷ 1 ∷ []) ++ sevens 4) }
    ∷ record { asked = one_step plate_a; says = record { numbers = map pos (0 ∷ 0 ∷ 0 ∷ 0 ∷ 1 ∷ 1 ∷ 0 ∷ []); out = []; work = zeros 8 } }
    -- B, and the paper's stop row on it
    ∷ record { asked = forward plate_b 3; says = done 10 3 26 26 list_b }
    ∷ record { asked = paper plate_b; says = record { numbers = pos 42 ∷ []; out = map pos (0 ∷ 0 ∷ 4 ∷ 3 ∷ 4 ∷ 1 ∷ 4 ∷ 4 ∷ 1 ∷ 3 ∷ 7 ∷ 2 ∷ []); work = [] } }
    -- C
    ∷ record { asked = forward plate_c 4; says = done 8 4 20 36 (map pos (3 ∷ 1 ∷ 2 ∷ 1 ∷ 0 ∷ 2 ∷ 3 ∷ 2 ∷ 5 ∷ 2 ∷ 5 ∷ 2 ∷ 3 ∷ 4 ∷ 2 ∷ 1 ∷ [])) }
    -- D, and with room for 3
    ∷ record { asked = forward plate_d 4; says = done 8 4 12 24 (map pos (0 ∷ 0 ∷ 4 ∷ 1 ∷ 0 ∷ 1 ∷ 1 ∷ 3 ∷ 3 ∷ 1 ∷ 1 ∷ 2 ∷ 1 ∷ 3 ∷ 3 ∷ 1 ∷ [])) }
    ∷ record { asked = forward plate_d 3; says = refuses 8 4 (sevens 12) (zeros 16) }
    -- E, and one step of it
    ∷ record { asked = forward plate_e 2; says = done 6 2 2 8 (map pos (0 ∷ 0 ∷ 1 ∷ 1 ∷ 1 ∷ 1 ∷ 1 ∷ 1 ∷ [])) }
    ∷ record { asked = one_step plate_e; says = record { numbers = map pos (0 ∷ 0 ∷ 0 ∷ 0 ∷ 1 ∷ 1 ∷ 4 ∷ []); out = []; work = map pos (2 ∷ 2 ∷ 1 ∷ 2 ∷ 2 ∷ 1 ∷ 1 ∷ 1 ∷ []) ++ zeros 4 } }
    -- F: no points
    ∷ record { asked = forward [] 0; says = done 0 0 0 0 [] }
    -- G, H: refused
    ∷ record { asked = forward plate_g 1; says = refuses 6 2 (sevens 4) (sevens 6) }
    ∷ record { asked = forward plate_h 1; says = refuses 7 1 (sevens 4) (sevens 8) }
    -- I: E's list, with room for 1, and a step, which still refuses it
    ∷ record { asked = forward plate_i 2; says = done 8 2 2 8 (map pos (0 ∷ 0 ∷ 1 ∷ 1 ∷ 1 ∷ 1 ∷ 1 ∷ 1 ∷ [])) }
    ∷ record { asked = forward plate_i 1; says = refuses 8 2 (sevens 4) (zeros 16) }
    ∷ record { asked = one_step plate_i; says = record { numbers = map pos (5 ∷ 4 ∷ []); out = []; work = plate_i } }
    -- J, and its right side one unit further
    ∷ record { asked = forward (plate_j high_end) 1; says = done 4 1 4_000_000_000_000_000_000 8_000_000_000 (low_end ∷ low_end ∷ pos 2_000_000_000 ∷ pos 2_000_000_000 ∷ []) }
    ∷ record { asked = forward (plate_j (pos 1_000_000_001)) 1; says = refuses 4 1 (sevens 4) (sevens 8) }
    -- K: B's list backward
    ∷ record { asked = backward list_b 10; says = record { numbers = map pos (0 ∷ 0 ∷ 10 ∷ []); out = map pos (0 ∷ 0 ∷ 4 ∷ 0 ∷ 4 ∷ 1 ∷ 8 ∷ 1 ∷ 0 ∷ 3 ∷ 1 ∷ 3 ∷ 4 ∷ 3 ∷ 8 ∷ 3 ∷ 1 ∷ 5 ∷ 4 ∷ 5 ∷ []); work = [] } }
    -- L: one rectangle twice, backward
    ∷ record { asked = backward list_l 0; says = record { numbers = map pos (0 ∷ 0 ∷ 0 ∷ []); out = []; work = [] } }
    ∷ []
