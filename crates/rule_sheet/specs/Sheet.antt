-- A sheet and its tests, in the order of their refusals: 5, 6, 7.
use Rattle.std.specs.Prelude.{ℕ, Bool, cond, not, ◌||◌, List, [], ◌∷◌, length, take, eqb, Float, Err}
use Rattle.lists.specs.Sort.{tabulate}
use Rattle.points.specs.declared.Point.{Point}
use Rattle.points.specs.Points.{point_at, finite_p}
use Rattle.rule_sheet.specs.declared.Counts.{Counts}
use Rattle.rule_sheet.specs.Quads.{Quad, all}
use Rattle.rule_sheet.specs.Flat.{quads_of}
use Rattle.rule_sheet.specs.Tests.{good_corners, good_masks}
use Rattle.rule_sheet.specs.Verdicts.{Verdict, Accepted}
use Rattle.rule_sheet.specs.declared.Refusal.TheVariants.{Bare, Corner, Clash}

-- "A sheet has points (three f64), quads (four point numbers, u32) and one label byte per quad."
pub record Sheet : Type 0 where
  pub points : List Point
  pub quads : List Quad
  pub labels : List ℕ

-- the first n points of a list of coordinates
unfoldable pub points_of : ℕ → List Float → List Point
points_of n P = tabulate (point_at P) n

-- the coordinates of points, one after the other
unfoldable pub flat_points : List Point → List Float
flat_points [] = []
flat_points (p ∷ ps) = p.x ∷ p.y ∷ p.z ∷ flat_points ps

-- the sheet that slices hold, by its counts
abbrev pub sheet_of : Counts → List Float → List ℕ → List ℕ → Sheet
sheet_of c P Q labels =
    record { points = points_of c.points P; quads = quads_of c.quads Q; labels = take c.labels labels }

-- the counts of a sheet
abbrev pub counts_of : Sheet → Counts
counts_of s = record { points = length s.points; quads = length s.quads; labels = length s.labels }

-- the sheet with other quads
abbrev pub with_quads : Sheet → List Quad → Sheet
with_quads s S = record { points = s.points; quads = S; labels = s.labels }

-- 5, bare: "no point, no quad, label count not quad count, or a point not finite"
unfoldable pub is_bare : Sheet → Bool
is_bare s =
    eqb (length s.points) 0 || eqb (length s.quads) 0 || not (eqb (length s.labels) (length s.quads))
    || not (all finite_p s.points)

-- 6, 7
unfoldable pub quads_verdict : ℕ → List Quad → List ℕ → Verdict
quads_verdict n S labels =
    cond (good_corners n S labels) (cond (good_masks n S labels) Accepted (Err Clash)) (Err Corner)

-- the tests of a sheet: 5, 6, 7
unfoldable pub sheet_verdict : Sheet → Verdict
sheet_verdict s = cond (is_bare s) (Err Bare) (quads_verdict (length s.points) s.quads s.labels)
