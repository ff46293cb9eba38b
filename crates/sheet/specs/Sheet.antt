-- What the tests of a lent sheet are handed, and what they read of it.
use Rattle.std.specs.Prelude.{ℕ, ◌+◌, ◌*◌, ◌≤◌, ◌≡◌, Bool, not, ◌||◌, List, eqb, Float, Ok, Err}
use Rattle.lists.specs.Sort.{tabulate}
use Rattle.lists.specs.Every.{every}
use Rattle.points.specs.Points.{point_at, finite_p}
use Rattle.rule_sheet.specs.declared.Counts.{Counts}
use Rattle.rule_sheet.specs.Quads.{Quad, mask_of}
use Rattle.rule_sheet.specs.Lent.{limit}
use Rattle.rule_sheet.specs.Verdicts.{Verdict}

-- what 12 leaves: small counts
pub record Few (c : Counts) : Type 0 where
  pub points≤ : c.points ≤ limit
  pub quads≤ : c.quads ≤ limit
  pub labels≤ : c.labels ≤ limit

-- the same by the counts and the coordinates
abbrev pub finite_at : List Float → ℕ → Bool
finite_at P v = finite_p (point_at P v)

unfoldable pub bare_by : Counts → List Float → Bool
bare_by c P =
    eqb c.points 0 || eqb c.quads 0 || not (eqb c.labels c.quads) || not (every (finite_at P) c.points)

-- the masks of the points
unfoldable pub masks_of : ℕ → List Quad → List ℕ → List ℕ
masks_of n S labels = tabulate (mask_of S labels) n

-- an accepted sheet leaves its masks; of a refused one nothing is said
abbrev pub MasksIf : Verdict → List ℕ → List ℕ → Type 0
MasksIf (Ok u) masks w = w ≡ masks
MasksIf (Err n) masks w = Unit {0}

-- what 12 and 13 leave of a sheet in slices of p, q and l elements: small counts, and slices that hold them
pub record LentSheet (c : Counts) (p q l : ℕ) : Type 0 where
  pub few : Few c
  pub points : 3 * c.points ≤ p
  pub quads : 4 * c.quads ≤ q
  pub labels : c.labels ≤ l

-- and of work slices of w and f elements
pub record LentWork (c : Counts) (w f : ℕ) : Type 0 where
  pub work : 64 * (c.points + c.quads) ≤ w
  pub floats : 16 * (c.points + c.quads) ≤ f
