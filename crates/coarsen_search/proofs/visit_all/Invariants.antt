-- `coarsen_search::visit_all` meets its contract. Assumes nothing.
use Rattle.coarsen_search.proofs.Steps.{Visiting}
use Rattle.coarsen_search.proofs.visit_all.Given as goal

abbrev pub invariant-loop-f : goal.invariant-loop-f
invariant-loop-f l = Visiting l.b l.np l.nq l.labels l.initial.points l.initial.quads l.initial.w l.points l.quads l.w l.f l.count
