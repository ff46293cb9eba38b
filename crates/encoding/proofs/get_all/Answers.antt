use native.Mathlib.Omega.{arith}
use Prim.Native.Nat.{◌*◌}
use lib.Seq.{drop-drop}
use Rattle.lists.proofs.Laws.{filled-start, filled-turn, filled-end}
use Rattle.encoding.proofs.get_all.Goals as goal

pub loop-i-init : goal.loop-i-init
loop-i-init g c = filled-start _ _ _ c.requires.n_in_bounds_2

pub loop-i-preserved : goal.loop-i-preserved
loop-i-preserved g c =
    filled-turn _ c.loop-i.invariant c.loop-i-test.true (rw (drop-drop (g.T.Little.WIDTH * c.loop-i.i) c.args.at c.args.s.now) (rw c.WIDTH.ensures at c.get.ensures))

pub returns : goal.returns
returns g c = rw (g.met.T.Little.laws.each c.args.n _) (filled-end c.loop-i.invariant (omega arith))
