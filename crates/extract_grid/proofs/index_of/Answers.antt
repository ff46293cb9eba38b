-- `extract_grid::index_of` meets its contract. Assumes nothing.
use native.Mathlib.Omega.{arith}
use Rattle.rule_extract.specs.Lattice.{index_of}
use Rattle.extract_grid.proofs.Places.{index-room}
use mathlib.Core.Path.{refl}
use Rattle.extract_grid.proofs.index_of.Goals as goal

pub overflow_mul-result : goal.overflow_mul-result
overflow_mul-result c = let r = index-room _ _ c.requires.n_bound c.requires.within in omega arith

pub overflow_add-result : goal.overflow_add-result
overflow_add-result c = let r = index-room _ _ c.requires.n_bound c.requires.within in omega arith

pub overflow_mul-result-2 : goal.overflow_mul-result-2
overflow_mul-result-2 c = let r = index-room _ _ c.requires.n_bound c.requires.within in omega arith

pub overflow_add-result-2 : goal.overflow_add-result-2
overflow_add-result-2 c = let r = index-room _ _ c.requires.n_bound c.requires.within in omega arith

pub returns : goal.returns
unfolding index_of
returns c =
    let r = index-room _ _ c.requires.n_bound c.requires.within in
    record { value = refl; upper_bound = omega arith }
