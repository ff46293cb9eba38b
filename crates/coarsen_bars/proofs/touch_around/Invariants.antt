use Rattle.coarsen_bars.proofs.Bars.{TouchingAround}
use Rattle.coarsen_bars.proofs.touch_around.Given as goal

abbrev pub invariant-loop-i : goal.invariant-loop-i
invariant-loop-i l = TouchingAround l.np l.nq l.x l.initial.i-iterator.start l.i-iterator.end l.initial.w l.w l.i-iterator.start
