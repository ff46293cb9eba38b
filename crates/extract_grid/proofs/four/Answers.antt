-- `extract_grid::four` meets its contract. Assumes nothing.
use native.Mathlib.Omega.{arith}
use Rattle.extract_grid.specs.Lattice.{four_of}
use Rattle.extract_grid.proofs.four.Goals as goal

pub returns : goal.returns
unfolding four_of
returns c =
    record { value = rw (c.pair-a.ensures.value, c.pair-b.ensures.value); upper_bound = omega arith }
