-- `sheet::finite_points` meets its contract. Assumes nothing.
use mathlib.Core.Path.{◌≡◌}
use mathlib.Core.Bool.{true}
use Rattle.sheet.specs.Sheet.{finite_at}
use Rattle.lists.specs.Every.{every}
use Rattle.sheet.proofs.finite_points.Given as goal

abbrev pub invariant-loop-v : goal.invariant-loop-v
invariant-loop-v l = every (finite_at l.points) l.v ≡ true
