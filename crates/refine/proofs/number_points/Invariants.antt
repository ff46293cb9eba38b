-- `refine::number_points` meets its contract. Assumes nothing.
use Rattle.refine.proofs.Loops.{NumberLoop}
use Rattle.refine.proofs.number_points.Given as goal

abbrev pub invariant-loop-t : goal.invariant-loop-t
invariant-loop-t l = NumberLoop l.n l.m l.first l.num l.initial.w l.w l.next l.t
