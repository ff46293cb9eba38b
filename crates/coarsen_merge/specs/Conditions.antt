-- What holds during a pass of merges, and what the tests of a diagonal ask and leave.
use Rattle.std.specs.Prelude.{ℕ, ◌+◌, ◌-◌, ◌*◌, ◌≤◌, ◌<◌, ◌≡◌, List, length, get_or}
use Rattle.lists.specs.Sort.{tabulate}
use Rattle.lists.specs.Regions.{part, Part}
use Rattle.rule_sheet.specs.Quads.{valence}
use Rattle.sheet.specs.Edges.{point_corners}
use Rattle.sheet.specs.Sheet.{masks_of}
use Rattle.incidence.specs.Corners.{Cornered}
use Rattle.pass_map.specs.Regions.{points_at, valences_at, was_in, start_in}
use Rattle.pass_map.specs.Conditions.{MapHolds}
use Rattle.coarsen_merge.specs.declared.Span.{Span}
use Rattle.coarsen_merge.specs.Regions.{used_in, touched_in}
use Rattle.coarsen_merge.specs.Steps.{unmarked, free_around}

-- what the start of a pass leaves in the work slice beside the masks, and a pass does not change
pub record StartHolds (np nq : ℕ) (w : List ℕ) : Type 0 where
  pub map : MapHolds np nq w
  pub valences : Part (valences_at np nq) np (tabulate (valence (start_in np nq w)) np) w

-- a point is touched where a quad at it has a barred corner
pub record TouchedHolds (np nq : ℕ) (w : List ℕ) : Type 0 where
  pub is : (v : ℕ) → v < np → unmarked (touched_in np nq w) v ≡ free_around (was_in np nq w) (used_in np nq w) nq v

-- the masks stand there too
abbrev pub Masked : ℕ → ℕ → List ℕ → List ℕ → Type 0
Masked np nq labels w = Part 0 np (masks_of np (start_in np nq w) labels) w

-- a list of corners of nq quads
pub record ListAsks (np nq : ℕ) (cs Q : List ℕ) : Type 0 where
  pub sheet : Cornered np nq Q
  pub known : (t : ℕ) → t < length cs → get_or cs t 0 < 4 * nq

-- the span s of w has the corners of the point v at the start
pub record CornersOfLeaves (np nq v : ℕ) (s : Span) (w : List ℕ) : Type 0 where
  pub begin : points_at np nq ≤ s.from
  pub low : s.from ≤ s.to
  pub end : s.to ≤ points_at np nq + 4 * nq
  pub high : s.to ≤ length w
  pub list : part s.from (s.to - s.from) w ≡ point_corners (was_in np nq w) nq v

-- the corners of a tried quad are points, each with a quad
pub record FaceAsks (np nq a b c d : ℕ) (w : List ℕ) : Type 0 where
  pub a< : a < np
  pub b< : b < np
  pub c< : c < np
  pub d< : d < np
  pub at_a : 1 ≤ valence (start_in np nq w) a
  pub at_b : 1 ≤ valence (start_in np nq w) b
  pub at_c : 1 ≤ valence (start_in np nq w) c
  pub at_d : 1 ≤ valence (start_in np nq w) d
