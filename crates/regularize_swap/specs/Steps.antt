-- A pass place by place, the corners in the order of their edges, two at a time; and one swap: the two quads, the four
-- valences and the marks that it writes.
use Rattle.std.specs.Prelude.{ℕ, zero, suc, ◌+◌, ◌-◌, ◌*◌, ◌/◌, ◌%◌, Bool, cond, not, ◌&&◌, List, [], ◌∷◌, eqb, leb}
use Rattle.std.specs.Prelude.{ltb, get_or, set}
use Rattle.rule_sheet.specs.Quads.{Quad, quad, uses, is_edge}
use Rattle.rule_sheet.specs.Flat.{quad_at}
use Rattle.sheet.specs.Flat.{from, to, before, with_quad}
use Rattle.edges.specs.Steps.{pair_at}
use Rattle.rule_regularize.specs.Swaps.{Place, State, Fits, try_places, six_differ, swap_one, swap_two, meets}
use Rattle.rule_passes.specs.Choices.{take_or}
use Rattle.regularize_shapes.specs.declared.Diagonal.{Diagonal}
use Rattle.regularize_shapes.specs.declared.Diagonal.TheVariants.{First, Second}
use Rattle.regularize_shapes.specs.declared.Six.{Six}
use Rattle.regularize_shapes.specs.SwapFits.{turned}
use Rattle.pass_map.specs.Regions.{start_in}
use Rattle.regularize_swap.specs.Regions.{sum_in}

-- ---- the places of a pass

-- the side of a quad that begins at a corner
abbrev pub place_of : ℕ → Place
place_of c = record { quad_no = c / 4; side_no = c % 4 }

-- the state after the two corners of an edge were tried
abbrev pub try_pair : List Quad → List ℕ → ℕ → Fits → ℕ → ℕ → State → State
try_pair S0 labels m fits c d st = take_or st (try_places S0 labels m fits st (place_of c ∷ place_of d ∷ []))

-- the state after place i of the n places of L, the corners of the quads S0 of Q in the order of their edges
unfoldable pub step_at : List Quad → List ℕ → ℕ → Fits → List ℕ → ℕ → List ℕ → State → ℕ → State
step_at S0 labels m fits Q n L st i =
    cond (pair_at Q n L i) (try_pair S0 labels m fits (get_or L i 0) (get_or L (i + 1) 0) st) st

-- k steps from place o on
unfoldable pub steps_from : {A : Type 0} → (A → ℕ → A) → ℕ → ℕ → A → A
steps_from step o zero st = st
steps_from step o (suc k) st = step (steps_from step o k st) (o + k)

-- ---- the six corners of an edge

-- the corner across the quad of corner c
abbrev pub across : List ℕ → ℕ → ℕ
across Q c = get_or Q (c / 4 * 4 + (c + 2) % 4) 0

-- the quad of corner c, read from it on
abbrev pub quad_from : List ℕ → ℕ → Quad
quad_from Q c = quad (from Q c) (to Q c) (across Q c) (before Q c)

-- the six corners round the quads of the corners c and d, from their shared edge on
abbrev pub six_at : List ℕ → ℕ → ℕ → Six
six_at Q c d = record { h0 = from Q c; h1 = across Q d; h2 = before Q d; h3 = to Q c; h4 = across Q c; h5 = before Q c }

-- six different corners
abbrev pub six_apart : Six → Bool
six_apart h = six_differ h.h0 h.h1 h.h2 h.h3 h.h4 h.h5

-- the quad of corner d goes along the edge from h3 to h0, and the six corners differ
abbrev pub is_hexagon : List ℕ → ℕ → Six → Bool
is_hexagon Q d h = eqb (to Q d) h.h0 && eqb (from Q d) h.h3 && six_apart h

-- The diagonal k may be put in: it is no edge of the start's quads, and half the gain is at least m. The valences stand
-- in w.
abbrev pub open_in : ℕ → ℕ → ℕ → Six → Diagonal → List ℕ → Bool
open_in np nq m h k w =
    not (is_edge (start_in np nq w) (turned h k).h0 (turned h k).h3)
    && leb (sum_in np nq w (turned h k).h0 (turned h k).h3 + 2 + m) (sum_in np nq w h.h0 h.h3)

-- the diagonal k gains more than 0
abbrev pub gains_in : ℕ → ℕ → Six → Diagonal → List ℕ → Bool
gains_in np nq h k w = ltb (sum_in np nq w (turned h k).h0 (turned h k).h3 + 2) (sum_in np nq w h.h0 h.h3)

-- the second diagonal gains more than the first
abbrev pub better_in : ℕ → ℕ → Six → List ℕ → Bool
better_in np nq h w = ltb (sum_in np nq w h.h2 h.h5) (sum_in np nq w h.h1 h.h4)

-- the quads i and j on both sides of the diagonal from h0 to h3
abbrev pub with_pair : List ℕ → ℕ → ℕ → Six → List ℕ
with_pair s i j g =
    with_quad (with_quad s i (quad g.h0 g.h1 g.h2 g.h3)) j (quad g.h0 g.h3 g.h4 g.h5)

-- the valences with one less at a and b and one more at c and d
abbrev pub less : List ℕ → ℕ → List ℕ
less vs a = set vs a (get_or vs a 0 - 1)

abbrev pub more : List ℕ → ℕ → List ℕ
more vs a = set vs a (get_or vs a 0 + 1)

abbrev pub moved : List ℕ → ℕ → ℕ → ℕ → ℕ → List ℕ
moved vs a b c d = more (more (less (less vs a) b) c) d

-- the mark of quad q of Q: 1 where the weight of the quad is more than 0, else what it was
abbrev pub mark_if : (Quad → ℕ) → List ℕ → List ℕ → ℕ → ℕ
mark_if f Q bs q = cond (ltb 0 (f (quad_at Q q))) 1 (get_or bs q 0)

abbrev pub uses_three : ℕ → ℕ → ℕ → Quad → ℕ
uses_three a b c q = uses a q + uses b q + uses c q

abbrev pub uses_six : Six → Quad → ℕ
uses_six h q = uses h.h0 q + uses h.h1 q + uses h.h2 q + uses h.h3 q + uses h.h4 q + uses h.h5 q

-- ---- in the words of the rule

-- the quads with a diagonal put in
abbrev pub swap_by : Diagonal → List Quad → ℕ → ℕ → Six → List Quad
swap_by First S i j h = swap_one S i j h.h0 h.h1 h.h2 h.h3 h.h4 h.h5
swap_by Second S i j h = swap_two S i j h.h0 h.h1 h.h2 h.h3 h.h4 h.h5

-- the quad has one of the six corners
abbrev pub meets_six : Six → Quad → Bool
meets_six h q = meets q h.h0 h.h1 h.h2 h.h3 h.h4 h.h5
