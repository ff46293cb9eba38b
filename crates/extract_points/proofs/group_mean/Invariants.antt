-- `extract_points::group_mean` meets its contract. Assumes nothing.
use Rattle.extract_points.proofs.Means.{Summing}
use Rattle.extract_points.proofs.group_mean.Given as goal

abbrev pub invariant-loop-e : goal.invariant-loop-e
invariant-loop-e l = Summing l.g l.c l.k l.s l.e
