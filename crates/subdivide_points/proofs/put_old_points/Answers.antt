use native.Mathlib.Omega.{arith}
use mathlib.Core.Path.{◌≡◌}
use Rattle.refine.proofs.Loops.{points-none, points-more}
use Rattle.subdivide_points.proofs.put_old_points.Goals as goal

pub loop-v-init : goal.loop-v-init
loop-v-init c = points-none _ _

pub loop-v-preserved : goal.loop-v-preserved
loop-v-preserved c = points-more _ _ _ _ _ c.loop-v.invariant (omega arith) c.old_point-p.ensures c.put_point.ensures

pub returns : goal.returns
returns c = let e : c.loop-v.v ≡ c.args.np = omega arith in rw e at c.loop-v.invariant
