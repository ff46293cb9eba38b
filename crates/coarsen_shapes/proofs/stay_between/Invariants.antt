use Rattle.points.specs.Points.{point_at}
use Rattle.coarsen_shapes.specs.MergeFits.{corner_stays, AllPass}
use Rattle.coarsen_shapes.proofs.stay_between.Given as goal

abbrev pub invariant-loop-i : goal.invariant-loop-i
invariant-loop-i l = AllPass (corner_stays l.f l.len (point_at l.points) l.labels l.quads l.m l.w) l.from l.i
