-- `extract_points::put_groups` meets its contract. Assumes nothing.
use Rattle.extract_points.proofs.Putting.{Placing}
use Rattle.extract_points.proofs.put_groups.Given as goal

abbrev pub invariant-loop-k : goal.invariant-loop-k
invariant-loop-k l = Placing l.g l.c l.place l.initial.out l.out l.next l.k
