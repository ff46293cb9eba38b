use native.Mathlib.Omega.{arith}
use Rattle.lists.proofs.Laws.{filled-start, filled-turn}
use Rattle.sheet.proofs.Fronts.{front-filled}
use Rattle.rows_quads.proofs.put_copied.Goals as goal

pub loop-c-init : goal.loop-c-init
loop-c-init c = filled-start _ _ _ c.requires.nq_in_bounds

pub corner_for-requires : goal.corner_for-requires
corner_for-requires c = record { gathered = c.requires.gathered; c_bound = c.loop-c-test.true }

pub loop-c-preserved : goal.loop-c-preserved
loop-c-preserved c = filled-turn _ c.loop-c.invariant c.loop-c-test.true c.corner_for.ensures

pub returns : goal.returns
returns c = front-filled c.loop-c.invariant (omega arith)
