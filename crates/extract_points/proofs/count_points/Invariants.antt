-- `extract_points::count_points` meets its contract. Assumes nothing.
use Rattle.extract_points.proofs.Counts.{Totalling}
use Rattle.extract_points.proofs.count_points.Given as goal

abbrev pub invariant-loop-e : goal.invariant-loop-e
invariant-loop-e l = Totalling l.g l.n l.total l.e
