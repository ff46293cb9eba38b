-- `subdivide::project_points` meets its contract. Assumes nothing.
use Rattle.subdivide.proofs.Landing.{Landed}
use Rattle.subdivide.proofs.project_points.Given as goal

abbrev pub invariant-loop-v : goal.invariant-loop-v
invariant-loop-v l = Landed l.b l.initial.points l.masks l.n l.points l.v
