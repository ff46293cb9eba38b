-- For finite ends of magnitude at most 2 ^ 1022, each coordinate of a halfway point lies between its two ends. Assumes nothing.
use lib.Dec.{T}
use lib.Ieee.{binary64, fits}
use Rattle.numeric.specs.Num.{halfway_of}
use Rattle.numeric.specs.Clauses.{Small, Between}
use Rattle.numeric.proofs.Midpoint.{midpoint-between}
use Rattle.points.specs.declared.Point.{Point}
use Rattle.points.specs.Points.{halfway_p}

-- a point of binary64 coordinates of magnitude at most 2 ^ 1022
pub record SmallPoint (p : Point) : Type 0 where
  pub fits_x : T (fits binary64 p.x)
  pub fits_y : T (fits binary64 p.y)
  pub fits_z : T (fits binary64 p.z)
  pub small_x : Small p.x
  pub small_y : Small p.y
  pub small_z : Small p.z

-- each coordinate of r lies between those of a and b
pub record BetweenPoints (a b r : Point) : Type 0 where
  pub on_x : Between a.x b.x r.x
  pub on_y : Between a.y b.y r.y
  pub on_z : Between a.z b.z r.z

pub halfway-between : (a b : Point) → SmallPoint a → SmallPoint b → BetweenPoints a b (halfway_p a b)
unfolding halfway_p halfway_of
halfway-between a b p q = record {
  on_x = midpoint-between a.x b.x p.fits_x q.fits_x p.small_x q.small_x;
  on_y = midpoint-between a.y b.y p.fits_y q.fits_y p.small_y q.small_y;
  on_z = midpoint-between a.z b.z p.fits_z q.fits_z p.small_z q.small_z;
}
