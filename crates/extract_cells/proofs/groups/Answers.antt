use native.Mathlib.Omega.{arith}
use Rattle.extract_cells.proofs.Faces.{joining-first, joining-turn, joining-end}
use Rattle.extract_cells.proofs.groups.Goals as goal

pub loop-t-init : goal.loop-t-init
loop-t-init c = joining-first _ _

pub loop-t-preserved : goal.loop-t-preserved
loop-t-preserved c = joining-turn c.loop-t.invariant c.bit-centre.ensures c.merge_if.ensures

pub returns : goal.returns
returns c = joining-end c.loop-t.invariant (omega arith)
