-- The regions of the work slice that the start of a pass fills, for a sheet of np points and nq quads.
use Rattle.std.specs.Prelude.{ℕ, ◌+◌, ◌*◌, List}
use Rattle.lists.specs.Regions.{part, Out}
use Rattle.rule_sheet.specs.Quads.{Quad}
use Rattle.rule_sheet.specs.Flat.{quads_of}

-- ---- where they begin

-- the quads of the pass's start
abbrev pub was_at : ℕ → ℕ → ℕ
was_at np nq = 1 * (np + nq)

-- where the sorts work
abbrev pub work_at : ℕ → ℕ → ℕ
work_at np nq = 5 * (np + nq)

-- where the corners of each smaller point begin in the order of the edges, and the corners in that order
abbrev pub edge_starts_at : ℕ → ℕ → ℕ
edge_starts_at np nq = 9 * (np + nq)

abbrev pub edges_at : ℕ → ℕ → ℕ
edges_at np nq = 11 * (np + nq)

-- where the corners of each point begin in the order of the points, and the corners in that order
abbrev pub point_starts_at : ℕ → ℕ → ℕ
point_starts_at np nq = 15 * (np + nq)

abbrev pub points_at : ℕ → ℕ → ℕ
points_at np nq = 17 * (np + nq)

-- the valences
abbrev pub valences_at : ℕ → ℕ → ℕ
valences_at np nq = 21 * (np + nq)

-- an index outside all of them
abbrev pub Beside : ℕ → ℕ → ℕ → Type 0
Beside np nq i = Out (was_at np nq) (21 * (np + nq)) i

-- ---- what they hold

-- the quads of the pass's start, flat and as quads
abbrev pub was_in : ℕ → ℕ → List ℕ → List ℕ
was_in np nq w = part (was_at np nq) (4 * nq) w

abbrev pub start_in : ℕ → ℕ → List ℕ → List Quad
start_in np nq w = quads_of nq (was_in np nq w)

-- their corners in the order of the edges
abbrev pub edges_in : ℕ → ℕ → List ℕ → List ℕ
edges_in np nq w = part (edges_at np nq) (4 * nq) w
