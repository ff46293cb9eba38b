-- The projection of points in place, over flat lists: coordinates P and masks M.
use Rattle.std.specs.Prelude.{ℕ, ◌≤◌, ◌<◌, ◌≡◌, Bool, true, List, length, get_or, take, Float, Option}
use Rattle.lists.specs.Sort.{tabulate}
use Rattle.lists.specs.Regions.{Part}
use Rattle.points.specs.declared.Point.{Point}
use Rattle.points.specs.Points.{point_at}
use Rattle.band.specs.declared.Band.{Band}
use Rattle.projection.specs.Project.{project_of, is_onto, onto_of}
use Rattle.rule_sheet.specs.declared.Counts.{Counts}
use Rattle.rule_sheet.specs.Quads.{all}
use Rattle.rule_sheet.specs.Flat.{quads_of}
use Rattle.sheet.specs.Sheet.{masks_of}
use Rattle.rule_sheet.specs.Tests.{proper}
use Rattle.refine.specs.Loops.{Refinable}
use Rattle.subdivide_points.specs.Steps.{masks_at}

-- M has the masks of n points
pub record Masked (n : ℕ) (M : List ℕ) : Type 0 where
  pub fits : n ≤ length M
  pub low : (v : ℕ) → v < n → get_or M v 0 < 256

-- the projection of point v of the coordinates P by its mask in M
unfoldable pub land_at : Band → List Float → List ℕ → ℕ → Option Point
land_at b P M v = project_of b (point_at P v) (get_or M v 0)

abbrev pub lands_of : Band → List Float → List ℕ → ℕ → Bool
lands_of b P M v = is_onto (land_at b P M v)

-- the first n points projected
unfoldable pub landed_to : Band → List Float → List ℕ → ℕ → List Point
landed_to b P M n = tabulate (λ v. onto_of (land_at b P M v)) n

-- ---- the sheet that the tests accept

-- what 12, 13, 1, 5, 6 and 7 leave: a sheet in slices of p coordinates that can be refined, with good corners, and
-- its masks in the work slice
pub record Tested (c : Counts) (p : ℕ) (Q labels w : List ℕ) : Type 0 where
  pub refinable : Refinable c p Q (length labels) (length w)
  pub some : 0 < c.quads
  pub good : all (proper c.points) (quads_of c.quads Q) ≡ true
  pub masks : Part (masks_at c.points c.quads) c.points
      (masks_of c.points (quads_of c.quads Q) (take c.quads labels)) w
