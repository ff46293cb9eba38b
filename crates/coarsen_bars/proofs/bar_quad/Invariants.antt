use Rattle.coarsen_bars.proofs.Bars.{Barring}
use Rattle.coarsen_bars.proofs.bar_quad.Given as goal

abbrev pub invariant-loop-j : goal.invariant-loop-j
invariant-loop-j l = Barring l.np l.nq l.q l.initial.w l.w l.j
