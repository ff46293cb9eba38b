-- `refine::copy_points` meets its contract. Assumes nothing.
use Rattle.lists.specs.Sort.{tabulate}
use Rattle.points.specs.Points.{point_at}
use Rattle.rule_sheet.specs.Sheet.{flat_points}
use Rattle.sheet.specs.Results.{Front}
use Rattle.refine.proofs.copy_points.Given as goal

abbrev pub invariant-loop-v : goal.invariant-loop-v
invariant-loop-v l = Front (flat_points (tabulate (point_at l.points) l.v)) l.out
