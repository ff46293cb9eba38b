-- The five rows with ten norms give the least Jacobian of the double loop, in which each place has its own two norms. Assumes nothing.
use mathlib.Core.Path.{◌≡◌, refl}
use mathlib.Core.List.{[], ◌∷◌, map}
use lib.IntN.{pos}
use lib.Ieee.{binary64, div, of_int, of_bits}
use Rattle.points.specs.declared.Point.{Point}
use Rattle.points.specs.Points.{sub_p}
use Rattle.rule_quality.specs.declared.Corners.{Corners}
use Rattle.rule_quality.specs.Cells.{places, least_jacobian}
use Rattle.quality_cell.specs.Arms.{arm_of, arms_of, ratio_of, row_of, rows_of}

pub ten-roots : (p : Corners) (n : Point)
    → rows_of (arms_of (sub_p p.p1 p.p0) (sub_p p.p2 p.p3)) (arms_of (sub_p p.p3 p.p0) (sub_p p.p2 p.p1)) n ≡ least_jacobian p n
unfolding arm_of arms_of ratio_of row_of rows_of least_jacobian
ten-roots p n = refl

-- the k-th place is k over 4, as 000 has it
pub places-over-four : places ≡ map (λ k. div binary64 (of_int binary64 (pos k)) (of_int binary64 (pos 4))) (0 ∷ 1 ∷ 2 ∷ 3 ∷ 4 ∷ [])
unfolding of_bits div of_int
places-over-four = refl
