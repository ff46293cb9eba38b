-- `coarsen_compact::number_corners` meets its contract. Assumes nothing.
use native.Mathlib.Omega.{arith}
use Rattle.coarsen_compact.proofs.Numbers.{NumberTurn, number-start, number-meets, number-turn}
use Rattle.coarsen_compact.proofs.number_corners.Goals.{After-meet_point-used}
use Rattle.coarsen_compact.proofs.number_corners.Goals as goal

turn_at : (c : After-meet_point-used) → NumberTurn c.loop-c.invariant c.meet_point-used.result c.meet_point-used.new.w c.meet_point-used.new.floats
turn_at c = number-turn c.loop-c.invariant c.loop-c-test.true c.meet_point-used.ensures.value c.meet_point-used.ensures.w_after c.meet_point-used.ensures.floats_after

pub loop-c-init : goal.loop-c-init
loop-c-init c = number-start _ _ c.requires

pub meet_point-used-requires : goal.meet_point-used-requires
meet_point-used-requires c = number-meets c.loop-c.invariant c.loop-c-test.true

pub bounds-w-numbers : goal.bounds-w-numbers
bounds-w-numbers c = let t = turn_at (goal.at.bounds-w-numbers c).After-meet_point-used in omega (arith, t.at<)

pub loop-c-preserved : goal.loop-c-preserved
loop-c-preserved c = (turn_at (goal.at.loop-c-preserved c).After-meet_point-used).again
