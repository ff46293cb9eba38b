-- `extract_grid::pair` meets its contract. Assumes nothing.
use native.Mathlib.Omega.{arith}
use Rattle.extract_grid.specs.Lattice.{pair_of}
use Rattle.extract_grid.proofs.pair.Goals as goal

pub overflow_mul-result : goal.overflow_mul-result
overflow_mul-result c = omega arith

pub overflow_add-result : goal.overflow_add-result
overflow_add-result c = omega arith

pub returns : goal.returns
unfolding pair_of
returns c =
    record { value = rw (c.negative-a.ensures.value, c.negative-b.ensures.value); upper_bound = omega arith }
