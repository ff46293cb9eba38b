-- The least Jacobian with ten norms, not fifty: du depends on v alone and dv on u alone, so each norm is worked out
-- once.
use Rattle.std.specs.Prelude.{Float, List, map}
use Rattle.std.specs.List.{fold}
use Rattle.numeric.specs.Num.{min_of}
use Rattle.points.specs.declared.Point.{Point}
use Rattle.points.specs.Points.{◌⊗◌, one, dot_p, cross_p, norm_p}
use Rattle.quality_cell.specs.declared.Arm.{Arm}
use Rattle.rule_quality.specs.Cells.{quotient_of, places, between_of}

-- a direction and its norm
unfoldable pub arm_of : Point → Arm
arm_of d = record { along = d; norm = norm_p d }

-- the directions at the five places
unfoldable pub arms_of : Point → Point → List Arm
arms_of a b = map (λ t. arm_of (between_of a b t)) places

-- the Jacobian of two directions whose norms are known
unfoldable pub ratio_of : Arm → Arm → Point → Float
ratio_of x y n = quotient_of (dot_p (cross_p x.along y.along) n) (x.norm ⊗ y.norm)

-- the least of w and of the Jacobians of y with each of x
unfoldable pub row_of : Float → List Arm → Arm → Point → Float
row_of w x y n = fold (λ w a. min_of w (ratio_of a y n)) w x

-- the least of 1.0 and of the Jacobians of each of y with each of x
unfoldable pub rows_of : List Arm → List Arm → Point → Float
rows_of x y n = fold (λ w a. row_of w x a n) one y
