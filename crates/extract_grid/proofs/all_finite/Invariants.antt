-- `extract_grid::all_finite` meets its contract. Assumes nothing.
use mathlib.Core.Path.{◌≡◌}
use mathlib.Core.Bool.{true}
use Rattle.lists.specs.Every.{every}
use Rattle.extract_grid.specs.Lattice.{finite_in}
use Rattle.extract_grid.proofs.all_finite.Given as goal

abbrev pub invariant-loop-sample : goal.invariant-loop-sample
invariant-loop-sample l = every (finite_in l.s) l.sample-index ≡ true
