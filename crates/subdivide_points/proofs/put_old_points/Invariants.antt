-- `subdivide_points::put_old_points` meets its contract. Assumes nothing.
use Rattle.lists.specs.Sort.{tabulate}
use Rattle.rule_sheet.specs.Sheet.{flat_points}
use Rattle.sheet.specs.Results.{Front}
use Rattle.subdivide_points.specs.Steps.{moved_in}
use Rattle.subdivide_points.proofs.put_old_points.Given as goal

abbrev pub invariant-loop-v : goal.invariant-loop-v
invariant-loop-v l = Front (flat_points (tabulate (moved_in l.np l.nq l.points l.quads l.labels l.ends l.w) l.v)) l.out
