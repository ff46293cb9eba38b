use Rattle.coarsen_bars.proofs.Marks.{Naming}
use Rattle.coarsen_bars.proofs.rename_corners.Given as goal

abbrev pub invariant-loop-c : goal.invariant-loop-c
invariant-loop-c l = Naming l.cs l.initial.quads l.a l.quads l.c-index
