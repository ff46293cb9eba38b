-- `extract_points::rank` meets its contract. Assumes nothing.
use Rattle.extract_points.proofs.Counts.{Ranking}
use Rattle.extract_points.proofs.rank.Given as goal

abbrev pub invariant-loop-i : goal.invariant-loop-i
invariant-loop-i l = Ranking l.kind l.groups l.count l.i
