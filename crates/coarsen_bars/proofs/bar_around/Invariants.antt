use Rattle.coarsen_bars.proofs.Bars.{BarringAround}
use Rattle.coarsen_bars.proofs.bar_around.Given as goal

abbrev pub invariant-loop-i : goal.invariant-loop-i
invariant-loop-i l = BarringAround l.np l.nq l.v l.initial.i-iterator.start l.i-iterator.end l.initial.w l.w l.i-iterator.start
