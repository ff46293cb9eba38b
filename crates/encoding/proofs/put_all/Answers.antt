use native.Mathlib.Omega.{arith}
use Rattle.encoding.proofs.Loops.{all-turn, all_end}
use Rattle.encoding.proofs.put_all.Goals as goal

pub loop-i-preserved : goal.loop-i-preserved
loop-i-preserved g c =
    all-turn g.met.T.Little.laws _ c.loop-i.invariant c.loop-i-test.true (rw (c.WIDTH.ensures, c.index-v-i.is) at c.put.ensures)

pub returns : goal.returns
returns g c = all_end g.met.T.Little.laws c.loop-i.invariant (omega arith)
