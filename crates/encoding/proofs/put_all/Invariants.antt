-- `encoding::put_all` meets its contract. Assumes nothing.
use Rattle.encoding.proofs.Loops.{PuttingAll}
use Rattle.encoding.proofs.put_all.Given as goal

abbrev pub invariant-loop-i : goal.invariant-loop-i
invariant-loop-i g l = PuttingAll g.met.T.Little.laws l.at l.n l.v l.initial.out l.out l.i
