use native.Mathlib.Omega.{arith}
use Rattle.lists.proofs.Laws.{filled-start, filled-turn, filled-all}
use Rattle.extract_grid.proofs.sample_grid.Goals as goal

pub loop-t-init : goal.loop-t-init
loop-t-init c = filled-start _ _ _ (omega arith)

pub loop-t-preserved : goal.loop-t-preserved
loop-t-preserved c = filled-turn _ c.loop-t.invariant (omega arith) c.sample_at.ensures

pub returns : goal.returns
returns c = filled-all c.loop-t.invariant (omega arith)
