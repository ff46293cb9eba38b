-- What `quality` measures of a sheet in floats: each sum, mean and least value in the order of 000's operations.
use Rattle.std.specs.Prelude.{ℕ, ◌+◌, ◌-◌, Bool, cond, not, ◌&&◌, length, get_or, Float, Result, Ok, Err}
use mathlib.Core.List.{List, map, zip_with, foldl}
use Rattle.std.specs.Float.{nan, binary64}
use Rattle.std.specs.Float.Ieee.{div, lt, le, of_bits}
use Rattle.numeric.specs.Num.{zero_f, twentieth, half, float, min_of, floor_of}
use Rattle.points.specs.declared.Point.{Point}
use Rattle.points.specs.Points.{◌⊕◌, ◌⊖◌, ◌⊗◌, one, neg_zero, norm_p, centre_p, finite_p}
use Rattle.setting.specs.Settings.{Domain, band_in}
use Rattle.band.specs.Bands.{normal_of}
use Rattle.rule_sheet.specs.Quads.{Quad, quad, num, sum, all}
use Rattle.rule_sheet.specs.Sheet.{Sheet}
use Rattle.rule_quality.specs.Floats.{sort_floats}
use Rattle.rule_quality.specs.declared.Corners.{Corners}
use Rattle.rule_quality.specs.Cells.{shape_of, least_jacobian, area_of}
use Rattle.rule_quality.specs.declared.Measures.{Measures}
use Rattle.rule_sheet.specs.declared.Refusal.{Refusal}
use Rattle.rule_sheet.specs.declared.Refusal.TheVariants.{Normal}

-- ---- one quad

-- what is read for a number that no point of the sheet has
abbrev pub nowhere : Point
nowhere = record { x = nan; y = nan; z = nan }

-- the points at the four corners of a quad
unfoldable pub corners_of : List Point → Quad → Corners
corners_of P (quad a b c d) =
    record { p0 = get_or P a nowhere; p1 = get_or P b nowhere; p2 = get_or P c nowhere; p3 = get_or P d nowhere }

-- the centre
abbrev pub centre_of : Corners → Point
centre_of p = centre_p p.p0 p.p1 p.p2 p.p3

-- a quad's points, and the outward normal at its centre
pub record Cell : Type 0 where
  pub corners : Corners
  pub normal : Point

-- the cell of a quad with the label l
abbrev pub cell_of : Domain → List Point → Quad → ℕ → Cell
cell_of d P q l = record { corners = corners_of P q; normal = normal_of (band_in d) (centre_of (corners_of P q)) l }

-- the cells of a sheet, in the order of its quads
unfoldable pub cells_of : Domain → Sheet → List Cell
cells_of d s = zip_with (cell_of d s.points) s.quads s.labels

-- a normal that is finite and not shorter than 0.5
unfoldable pub good_normal : Point → Bool
good_normal n = finite_p n && not (lt (norm_p n) half)

-- a cell with such a normal
abbrev pub has_normal : Cell → Bool
has_normal c = good_normal c.normal

-- the shape of a cell
abbrev pub cell_shape : Cell → Float
cell_shape c = shape_of c.corners c.normal

-- its least Jacobian at 5 by 5 places
abbrev pub cell_jacobian : Cell → Float
cell_jacobian c = least_jacobian c.corners c.normal

-- its area
abbrev pub cell_area : Cell → Float
cell_area c = area_of c.corners

-- ---- lists of floats

-- the least, from plus infinity on
unfoldable pub least_of : List Float → Float
least_of l = foldl min_of (div binary64 one zero_f) l

-- the sum in order, from -0.0 on
unfoldable pub total_of : List Float → Float
total_of l = foldl ◌⊕◌ neg_zero l

-- the sum ÷ the count
unfoldable pub mean_of : List Float → Float
mean_of l = div binary64 (total_of l) (float (length l))

-- 1e-8
abbrev pub flat : Float
flat = of_bits binary64 0x3e45_798e_e230_8c3a

-- how many Jacobians are at most 1e-8
unfoldable pub invalid_of : List Float → ℕ
invalid_of l = sum (λ j. num (le j flat)) l

-- ---- scores

-- shape × min(area ÷ mean, mean ÷ area) where mean and area are above 0.0, else shape × 0.0
unfoldable pub score_of : Float → Float → Float → Float
score_of mean shape area =
    shape ⊗ cond (lt zero_f mean && lt zero_f area) (min_of (div binary64 area mean) (div binary64 mean area)) zero_f

-- the scores of the quads, by the mean of the areas
unfoldable pub scores_of : List Float → List Float → List Float
scores_of shapes areas = zip_with (score_of (mean_of areas)) shapes areas

-- x without its whole part, for an x of at least 0
unfoldable pub fract_of : Float → Float
fract_of x = x ⊖ float (floor_of x)

-- the whole number next above x, or x itself where it is whole, for an x of at least 0
unfoldable pub ceil_of : Float → ℕ
ceil_of x = cond (lt zero_f (fract_of x)) (floor_of x + 1) (floor_of x)

-- between the elements on either side of the place x of a list
unfoldable pub value_at_place : List Float → Float → Float
value_at_place l x = get_or l (floor_of x) nan ⊗ (one ⊖ fract_of x) ⊕ get_or l (ceil_of x) nan ⊗ fract_of x

-- the value at the place 0.05 × (count − 1), 000's `index`
unfoldable pub p05_of : List Float → Float
p05_of l = value_at_place l (twentieth ⊗ float (length l - 1))

-- ---- the rule

-- the five values, by the shapes, the Jacobians and the scores in ascending order
unfoldable pub summary_of : List Float → List Float → List Float → Measures
summary_of shapes jacobians sorted = record {
  minimum_shape = least_of shapes;
  shape_size_p05 = p05_of sorted;
  shape_size_mean = mean_of sorted;
  minimum_sampled_jacobian = least_of jacobians;
  invalid_cells = invalid_of jacobians;
}

-- the five values of a sheet's cells: "A NaN score in `quality` sorts last", and the mean of the scores is taken
-- after the sort
unfoldable pub measures_of : List Cell → Measures
measures_of cells =
    summary_of (map cell_shape cells) (map cell_jacobian cells)
    (sort_floats (scores_of (map cell_shape cells) (map cell_area cells)))

-- what `measure` answers: the measures, or a refusal
abbrev pub Measured : Type 0
Measured = Result Measures Refusal

-- 11 where a quad's normal is not finite or shorter than 0.5, else the five values
unfoldable pub measure_rule : Domain → Sheet → Measured
measure_rule d s = cond (all has_normal (cells_of d s)) (Ok (measures_of (cells_of d s))) (Err Normal)
