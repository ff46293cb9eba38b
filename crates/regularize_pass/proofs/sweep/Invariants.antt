-- `regularize_pass::sweep` meets its contract. Assumes nothing.
use Rattle.regularize_pass.proofs.Sweeps.{Sweeping}
use Rattle.regularize_pass.proofs.sweep.Given as goal

abbrev pub invariant-loop-i : goal.invariant-loop-i
invariant-loop-i l = Sweeping l.np l.nq l.t l.points l.labels l.initial.quads l.initial.w l.quads l.w l.count l.i
