use native.Mathlib.Omega.{arith}
use mathlib.Core.Path.{◌≡◌}
use Prim.Native.Nat.{◌*◌}
use Rattle.refine.proofs.Loops.{quads-none, quads-more}
use Rattle.refine.proofs.put_quads.Goals as goal

pub loop-c-init : goal.loop-c-init
loop-c-init c = quads-none _ _

pub loop-c-preserved : goal.loop-c-preserved
loop-c-preserved c = quads-more _ _ _ _ c.loop-c.invariant (omega arith) c.put_child.ensures

pub returns : goal.returns
returns c = let e : c.loop-c.c ≡ 4 * c.args.nq = omega arith in rw e at c.loop-c.invariant
