use native.Mathlib.Omega.{arith}
use Rattle.lists.proofs.Laws.{filled-start, filled-turn}
use Rattle.sheet.proofs.Fronts.{front-filled}
use Rattle.subdivide_points.proofs.put_ends.Goals as goal

pub loop-i-init : goal.loop-i-init
loop-i-init c = filled-start _ _ _ c.requires.nq_in_bounds_2

pub end_at-requires : goal.end_at-requires
end_at-requires c =
    record { nq_in_bounds = c.requires.nq_in_bounds; below = c.requires.below; i_bound = c.loop-i-test.true }

pub loop-i-preserved : goal.loop-i-preserved
loop-i-preserved c = filled-turn _ c.loop-i.invariant c.loop-i-test.true c.end_at.ensures

pub returns : goal.returns
returns c = front-filled c.loop-i.invariant (omega arith)
