-- The counts of points as one record, and what the functions of `quality` are handed.
use Rattle.std.specs.Prelude.{ℕ, ◌+◌, ◌*◌, ◌≤◌, ◌<◌, ◌≡◌, true, List}
use Rattle.rule_sheet.specs.declared.Counts.{Counts}
use Rattle.rule_sheet.specs.Quads.{Quad, all}
use Rattle.rule_sheet.specs.Flat.{quads_of}
use Rattle.rule_sheet.specs.Tests.{proper}
use Rattle.rule_sheet.specs.Lent.{limit}
use Rattle.incidence.specs.Corners.{Cornered}
use Rattle.rule_quality.specs.Census.{irregular, bad_links}
use Rattle.quality_readings.specs.Readings.{Measurable}
use Rattle.quality.specs.declared.PointCounts.{PointCounts}

-- ---- the parts

-- the counts of points: those whose number of quads is not 4, and those whose link is bad
unfoldable pub point_counts : ℕ → List Quad → PointCounts
point_counts n S = record { irregular = irregular n S; bad_links = bad_links n S }

-- what the counts ask of np points and nq quads in Q, with w elements of work: corners that are four different
-- points, and room
pub record Countable (np nq : ℕ) (Q : List ℕ) (w : ℕ) : Type 0 where
  pub sheet : Cornered np nq Q
  pub good : all (proper np) (quads_of nq Q) ≡ true
  pub points : np ≤ limit
  pub some : 0 < nq
  pub room : 64 * (np + nq) ≤ w

-- what the tests leave of a lent sheet in slices of p coordinates and l labels, with w and f elements of work
pub record Measuring (c : Counts) (p : ℕ) (Q : List ℕ) (l w f : ℕ) : Type 0 where
  pub counts : Countable c.points c.quads Q w
  pub measures : Measurable c p Q l
  pub work : 2 * c.quads + 256 ≤ w
  pub floats : 5 * c.quads ≤ f
