-- What the start of a pass asks, what it leaves, and what of it holds during the pass.
use Rattle.std.specs.Prelude.{ℕ, ◌+◌, ◌*◌, ◌≤◌, ◌<◌, List, length, take}
use Rattle.lists.specs.Sort.{tabulate}
use Rattle.lists.specs.Regions.{Part, Kept}
use Rattle.rule_sheet.specs.Quads.{valence}
use Rattle.rule_sheet.specs.Flat.{quads_of}
use Rattle.rule_sheet.specs.Claims.{All, Differ}
use Rattle.rule_sheet.specs.Lent.{limit}
use Rattle.incidence.specs.Corners.{Cornered}
use Rattle.incidence.specs.Bounds.{Bounded}
use Rattle.edges.specs.Conditions.{EdgeMapHolds, PointMapHolds}
use Rattle.pass_map.specs.Regions.{was_at, edge_starts_at, edges_at, point_starts_at, points_at, valences_at, Beside}

-- the work slice is long enough for a sheet of some points, and not too many
pub record WorkFits (np nq : ℕ) (w : List ℕ) : Type 0 where
  pub some : 0 < np
  pub few : np ≤ limit
  pub long : 64 * (np + nq) ≤ length w

-- what the start of a pass over the quads Q asks
pub record MapAsks (np nq : ℕ) (Q w : List ℕ) : Type 0 where
  pub sheet : Cornered np nq Q
  pub work : WorkFits np nq w

-- the quads of the pass's start stand in w, with their corners by point and by edge
pub record MapHolds (np nq : ℕ) (w : List ℕ) : Type 0 where
  pub work : WorkFits np nq w
  pub points : PointMapHolds np nq (was_at np nq) (point_starts_at np nq) (points_at np nq) w
  pub edges : EdgeMapHolds np nq (was_at np nq) (edge_starts_at np nq) (edges_at np nq) w

-- what the start of a pass over the quads Q leaves: their map and their valences in w', and beside them what w has;
-- no valence passes the limit where the corners of each quad differ
pub record MapLeaves (np nq : ℕ) (Q w w' : List ℕ) : Type 0 where
  pub map : MapHolds np nq w'
  pub quads : Part (was_at np nq) (4 * nq) (take (4 * nq) Q) w'
  pub valences : Part (valences_at np nq) np (tabulate (valence (quads_of nq Q)) np) w'
  pub bounded : All Differ (quads_of nq Q) → Bounded (valences_at np nq) np w'
  pub kept : Kept (Beside np nq) w w'
