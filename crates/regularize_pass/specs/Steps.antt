-- The choice between the two diagonals of an edge by what the slices hold, and the steps of a pass.
use Rattle.std.specs.Prelude.{ℕ, ◌*◌, ◌/◌, Bool, cond, ◌&&◌, List, take, Float, Option, None, Some}
use Rattle.std.specs.Int.Signed.{lt_z}
use Rattle.points.specs.Points.{point_at}
use Rattle.rule_sheet.specs.Quads.{Quad}
use Rattle.rule_sheet.specs.Flat.{quads_of}
use Rattle.rule_sheet.specs.Sheet.{points_of}
use Rattle.rule_regularize.specs.Swaps.{Hex, Fits, State, gain_in, may, swap_pass}
use Rattle.rule_passes.specs.Choices.{choose, take_or}
use Rattle.regularize_shapes.specs.declared.Diagonal.{Diagonal}
use Rattle.regularize_shapes.specs.declared.Diagonal.TheVariants.{First, Second}
use Rattle.regularize_shapes.specs.declared.Six.{Six}
use Rattle.rule_regularize.specs.declared.Held.{Held}
use Rattle.rule_regularize.specs.SwapFits.{next_fits, fits_with}
use Rattle.regularize_shapes.specs.SwapFits.{hex_of, number_of}
use Rattle.pass_map.specs.Regions.{was_in, start_in, edges_in}
use Rattle.regularize_swap.specs.Regions.{free_in}
use Rattle.regularize_swap.specs.Steps.{try_pair, step_at, six_at, is_hexagon, gains_in, better_in}
use Rattle.regularize_pass.specs.declared.Trial.{Trial}

-- what the rule reads of the points, by what swaps are tried with
abbrev pub fits_in : Trial → ℕ → ℕ → List Float → List ℕ → Fits
fits_in t np nq P labels = fits_with t.field t.length (points_of np P) (take nq labels)

-- the diagonal that is taken, if any
abbrev pub diagonal : Bool → Bool → Bool → Option Diagonal
diagonal first second better = take_or None (choose first second better (Some First) (Some Second))

-- the diagonal that the rule takes at six different corners
unfoldable pub pick_of : List Quad → List ℕ → ℕ → Fits → List Quad → ℕ → ℕ → Hex → Option Diagonal
pick_of S0 labels least fits S i j h = diagonal
    (may S0 labels least fits S i j h 1 h.h0 h.h3 h.h1 h.h4)
    (may S0 labels least fits S i j h 2 h.h0 h.h3 h.h2 h.h5)
    (lt_z (gain_in S h.h0 h.h3 h.h1 h.h4) (gain_in S h.h0 h.h3 h.h2 h.h5))

-- a diagonal that is open may be taken
abbrev pub may_take : (np nq : ℕ) → List Float → Six → Diagonal → Held → Bool → List ℕ → Bool
may_take np nq P h k held free w = free && next_fits (point_at P) (hex_of h) (number_of k) held (gains_in np nq h k w)

-- the diagonal that is taken of those that are open
abbrev pub best_of : (np nq : ℕ) → List Float → Six → Held → Bool → Bool → List ℕ → Option Diagonal
best_of np nq P h held first second w =
    diagonal (may_take np nq P h First held first w) (may_take np nq P h Second held second w) (better_in np nq h w)

-- the diagonal that is taken at the corners c and d of an edge
unfoldable pub choice_in : ℕ → ℕ → Trial → List Float → List ℕ → List ℕ → ℕ → ℕ → List ℕ → Option Diagonal
choice_in np nq t P Q labels c d w =
    cond (free_in np nq labels w (c / 4) (d / 4))
    (cond (is_hexagon Q d (six_at Q c d))
    (pick_of (start_in np nq w) (take nq labels) t.least (fits_in t np nq P labels) (quads_of nq Q) (c / 4) (d / 4)
    (hex_of (six_at Q c d)))
    None)
    None

-- the trial of the corners c and d of an edge
abbrev pub try_in : ℕ → ℕ → Trial → List Float → List ℕ → List ℕ → ℕ → ℕ → State → State
try_in np nq t P labels w c d =
    try_pair (start_in np nq w) (take nq labels) t.least (fits_in t np nq P labels) c d

-- the step at place i in the order of the edges
abbrev pub step_in : ℕ → ℕ → Trial → List Float → List ℕ → List ℕ → ℕ → State → State
step_in np nq t P labels w i st =
    step_at (start_in np nq w) (take nq labels) t.least (fits_in t np nq P labels) (was_in np nq w) (4 * nq)
    (edges_in np nq w) st i

-- the rule's pass over the quads S
abbrev pub pass_in : ℕ → ℕ → Trial → List Float → List ℕ → List Quad → State
pass_in np nq t P labels S = swap_pass np (take nq labels) t.least (fits_in t np nq P labels) S
