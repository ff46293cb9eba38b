use native.Mathlib.Omega.{arith}
use mathlib.Core.Path.{◌≡◌}
use Rattle.rule_sheet.specs.Sheet.{points_of}
use Rattle.refine.proofs.Loops.{points-none, points-more}
use Rattle.refine.proofs.copy_points.Goals as goal

pub loop-v-init : goal.loop-v-init
loop-v-init c = points-none _ _

pub loop-v-preserved : goal.loop-v-preserved
loop-v-preserved c = points-more _ _ _ _ _ c.loop-v.invariant (omega arith) c.point_at.ensures c.put_point.ensures

pub returns : goal.returns
unfolding points_of
returns c = let e : c.loop-v.v ≡ c.args.n = omega arith in rw e at c.loop-v.invariant
