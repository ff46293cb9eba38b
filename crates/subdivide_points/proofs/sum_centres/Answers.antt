use native.Mathlib.Omega.{arith}
use Rattle.subdivide_points.specs.Steps.{corner_centre}
use Rattle.subdivide_points.proofs.Sums.{sum-start, sum-turn, sum-end}
use Rattle.subdivide_points.proofs.sum_centres.Goals as goal

pub loop-c-init : goal.loop-c-init
loop-c-init c = sum-start _ c.origin-sum.ensures

pub loop-c-preserved : goal.loop-c-preserved
unfolding corner_centre
loop-c-preserved c = sum-turn _ _ _ _ _ _ c.loop-c.invariant (omega arith) c.centre_at.ensures c.add-sum.ensures

pub returns : goal.returns
returns c = sum-end _ _ _ _ c.loop-c.invariant (omega arith)
