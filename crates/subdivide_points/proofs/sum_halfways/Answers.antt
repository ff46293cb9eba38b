use native.Mathlib.Omega.{arith}
use Rattle.subdivide_points.proofs.Sums.{other-low, halfway-is, sum-start, sum-turn, sum-end}
use Rattle.subdivide_points.proofs.sum_halfways.Goals as goal

pub loop-i-init : goal.loop-i-init
loop-i-init c = sum-start _ c.origin-sum.ensures

pub point_at-q-requires : goal.point_at-q-requires
point_at-q-requires c = other-low _ _ c.requires.positioned (c.requires.low _ (omega arith)) c.other_end.ensures

pub loop-i-preserved : goal.loop-i-preserved
loop-i-preserved c =
    sum-turn _ _ _ _ _ _ c.loop-i.invariant (omega arith) (halfway-is _ _ _ _ _ _ _ c.other_end.ensures c.point_at-q.ensures c.halfway.ensures) c.add-sum.ensures

pub returns : goal.returns
returns c = sum-end _ _ _ _ c.loop-i.invariant (omega arith)
