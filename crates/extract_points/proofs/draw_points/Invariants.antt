-- `extract_points::draw_points` meets its contract. Assumes nothing.
use Rattle.extract_points.proofs.Cells.{Drawn}
use Rattle.extract_points.proofs.draw_points.Given as goal

abbrev pub invariant-loop-e : goal.invariant-loop-e
invariant-loop-e l = Drawn l.g l.n l.initial.w l.initial.out l.w l.out l.place l.e
