-- What holds during a pass of swaps, what its start leaves, and what a swap asks and leaves.
use Rattle.std.specs.Prelude.{ℕ, ◌+◌, ◌*◌, ◌≤◌, ◌<◌, ◌≡◌, true, false, ◌≢◌, List, length, get_or, set, replicate}
use Rattle.lists.specs.Sort.{tabulate}
use Rattle.lists.specs.Regions.{Part, Out, Kept}
use Rattle.rule_sheet.specs.Quads.{quad, corners, valence}
use Rattle.rule_sheet.specs.Flat.{quad_at, quads_of}
use Rattle.rule_sheet.specs.Claims.{All, Differ}
use Rattle.rule_sheet.specs.Lent.{limit}
use Rattle.incidence.specs.Corners.{Cornered}
use Rattle.incidence.specs.Bounds.{Bounded}
use Rattle.rule_regularize.specs.Swaps.{bar_list}
use Rattle.regularize_shapes.specs.declared.Diagonal.{Diagonal}
use Rattle.regularize_shapes.specs.declared.Six.{Six}
use Rattle.regularize_shapes.specs.SwapFits.{SixBelow}
use Rattle.pass_map.specs.Regions.{valences_at, start_in}
use Rattle.pass_map.specs.Conditions.{MapHolds}
use Rattle.regularize_swap.specs.Regions.{bars_of}
use Rattle.regularize_swap.specs.Steps.{six_apart, swap_by, meets_six}

-- a pass is under way: the map of its start, and the valences of the quads Q now, one number a point. The corners of
-- each quad differ, so that "in no call does a stored valence pass 1,048,576".
pub record SwapPassHolds (np nq : ℕ) (Q w : List ℕ) : Type 0 where
  pub sheet : Cornered np nq Q
  pub map : MapHolds np nq w
  pub valences : Part (valences_at np nq) np (tabulate (valence (quads_of nq Q)) np) w
  pub differ : All Differ (quads_of nq Q)
  pub bounded : Bounded (valences_at np nq) np w

-- a pass over the quads Q begins: no quad is barred
pub record BeginPassLeaves (np nq : ℕ) (Q w : List ℕ) : Type 0 where
  pub holds : SwapPassHolds np nq Q w
  pub start : start_in np nq w ≡ quads_of nq Q
  pub bars : bars_of np nq w ≡ replicate nq false

-- what a change of the valence of v asks, np of them from val on
pub record ChangeAsks (val np v : ℕ) (w : List ℕ) : Type 0 where
  pub fits : val + np ≤ length w
  pub below : v < np
  pub bounded : Bounded val np w

-- what it leaves: x in its place, and again none that passes the limit
pub record ChangeLeaves (val np v x : ℕ) (w w' : List ℕ) : Type 0 where
  pub is : w' ≡ set w (val + v) x
  pub bounded : Bounded val np w'

-- what the move of valences asks: four different points, and valences that may fall and rise
pub record MoveValencesAsks (np : ℕ) (vs : List ℕ) (a b c d : ℕ) : Type 0 where
  pub a< : a < np
  pub b< : b < np
  pub c< : c < np
  pub d< : d < np
  pub ab : a ≢ b
  pub ac : a ≢ c
  pub ad : a ≢ d
  pub bc : b ≢ c
  pub bd : b ≢ d
  pub cd : c ≢ d
  pub least_a : 1 ≤ get_or vs a 0
  pub least_b : 1 ≤ get_or vs b 0
  pub most_c : get_or vs c 0 < limit
  pub most_d : get_or vs d 0 < limit

-- the quads i and j go round the six corners, h0 h3 h4 h5 and h3 h0 h1 h2
pub record MakeSwapAsks (np nq : ℕ) (Q : List ℕ) (h : Six) (i j : ℕ) : Type 0 where
  pub i< : i < nq
  pub j< : j < nq
  pub below : SixBelow np h
  pub differ : six_apart h ≡ true
  pub first : (f : ℕ → ℕ → ℕ → ℕ) → corners f (quad_at Q i) ≡ corners f (quad h.h0 h.h3 h.h4 h.h5)
  pub second : (f : ℕ → ℕ → ℕ → ℕ) → corners f (quad_at Q j) ≡ corners f (quad h.h3 h.h0 h.h1 h.h2)

-- what the swap of the quads i and j leaves: the slices go from Q and v to R and w
pub record MakeSwapLeaves (np nq : ℕ) (k : Diagonal) (h : Six) (i j : ℕ) (Q v R w : List ℕ) : Type 0 where
  pub holds : SwapPassHolds np nq R w
  pub quads : quads_of nq R ≡ swap_by k (quads_of nq Q) i j h
  pub bars : bars_of np nq w ≡ bar_list (start_in np nq v) (bars_of np nq v) (meets_six h)
  pub kept : Kept (Out (valences_at np nq) (2 * (np + nq))) v w
