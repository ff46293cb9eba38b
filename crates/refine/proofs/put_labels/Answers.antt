use native.Mathlib.Omega.{arith}
use mathlib.Core.Path.{refl}
use Rattle.lists.proofs.Laws.{filled-start, filled-turn}
use Rattle.sheet.proofs.Fronts.{front-filled}
use Rattle.refine.proofs.put_labels.Goals as goal

pub loop-i-init : goal.loop-i-init
loop-i-init c = filled-start _ _ _ (omega arith)

pub loop-i-preserved : goal.loop-i-preserved
loop-i-preserved c = filled-turn _ c.loop-i.invariant c.loop-i-test.true refl

pub returns : goal.returns
returns c = front-filled c.loop-i.invariant (omega arith)
