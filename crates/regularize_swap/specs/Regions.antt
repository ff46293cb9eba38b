-- The regions of a pass of swaps behind those of its start, what they hold, and what the pass reads of all of them.
use Rattle.std.specs.Prelude.{ℕ, ◌+◌, ◌*◌, Bool, not, ◌&&◌, List, eqb, get_or}
use Rattle.lists.specs.Sort.{tabulate}
use Rattle.lists.specs.Regions.{part}
use Rattle.rule_sheet.specs.Flat.{quads_of}
use Rattle.rule_regularize.specs.Swaps.{State}
use Rattle.pass_map.specs.Regions.{valences_at, edges_in}

-- the marks of barred quads
abbrev pub marks_at : ℕ → ℕ → ℕ
marks_at np nq = 22 * (np + nq)

-- what they are
abbrev pub marks_in : ℕ → ℕ → List ℕ → List ℕ
marks_in np nq w = part (marks_at np nq) nq w

-- quad q is barred
abbrev pub is_barred : ℕ → ℕ → List ℕ → ℕ → Bool
is_barred np nq w q = not (eqb (get_or w (marks_at np nq + q) 0) 0)

-- the same of all quads
unfoldable pub bars_of : ℕ → ℕ → List ℕ → List Bool
bars_of np nq w = tabulate (is_barred np nq w) nq

-- the quads i and j are not barred, and their labels agree
abbrev pub free_in : ℕ → ℕ → List ℕ → List ℕ → ℕ → ℕ → Bool
free_in np nq labels w i j =
    not (is_barred np nq w i) && not (is_barred np nq w j) && eqb (get_or labels i 0) (get_or labels j 0)

-- the state that the quads Q and the work slice hold, after k swaps
abbrev pub state_of : ℕ → ℕ → List ℕ → List ℕ → ℕ → State
state_of np nq Q w k = record { quads = quads_of nq Q; barred = bars_of np nq w; count = k }

-- the sum of two valences
abbrev pub sum_in : ℕ → ℕ → List ℕ → ℕ → ℕ → ℕ
sum_in np nq w u v = get_or w (valences_at np nq + u) 0 + get_or w (valences_at np nq + v) 0

-- the corner at place i in the order of the edges
abbrev pub edge_corner : ℕ → ℕ → List ℕ → ℕ → ℕ
edge_corner np nq w i = get_or (edges_in np nq w) i 0
