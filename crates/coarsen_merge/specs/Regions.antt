-- The regions of a pass of merges behind those of its start, and what they hold. The masks stand in front of all; the
-- unit before the touched points is the renumbering's.
use Rattle.std.specs.Prelude.{ℕ, ◌+◌, ◌*◌, ◌<◌, List}
use Rattle.lists.specs.Regions.{part}

-- the marks of the barred points
abbrev pub used_at : ℕ → ℕ → ℕ
used_at np nq = 22 * (np + nq)

-- the marks of the quads that are out
abbrev pub removed_at : ℕ → ℕ → ℕ
removed_at np nq = 23 * (np + nq)

-- the marks of the touched points
abbrev pub touched_at : ℕ → ℕ → ℕ
touched_at np nq = 25 * (np + nq)

-- where the last walk round each point ended
abbrev pub ended_at : ℕ → ℕ → ℕ
ended_at np nq = 26 * (np + nq)

-- the marks now
abbrev pub used_in : ℕ → ℕ → List ℕ → List ℕ
used_in np nq w = part (used_at np nq) np w

abbrev pub removed_in : ℕ → ℕ → List ℕ → List ℕ
removed_in np nq w = part (removed_at np nq) nq w

abbrev pub touched_in : ℕ → ℕ → List ℕ → List ℕ
touched_in np nq w = part (touched_at np nq) np w

-- an index in front of all that a pass changes
abbrev pub Steady : ℕ → ℕ → ℕ → Type 0
Steady np nq i = i < used_at np nq
