-- `extract_grid::case_at` meets its contract. Assumes nothing.
use native.Mathlib.Omega.{arith}
use Rattle.extract_grid.specs.Lattice.{eight_of}
use Rattle.extract_grid.proofs.Signs.{cell_room, square-room}
use Rattle.extract_grid.proofs.case_at.Goals as goal

pub overflow_mul-s : goal.overflow_mul-s
overflow_mul-s c = let q = square-room _ c.requires in omega arith

pub index_of-t-requires : goal.index_of-t-requires
index_of-t-requires c = record { n_bound = c.requires.m≤; within = c.requires.within }

pub four-a-requires : goal.four-a-requires
four-a-requires c = let q = cell_room _ c.requires in omega arith

pub overflow_add-t : goal.overflow_add-t
overflow_add-t c = omega arith

pub four-b-requires : goal.four-b-requires
four-b-requires c = let q = cell_room _ c.requires in omega arith

pub returns : goal.returns
unfolding eight_of
returns c = rw (c.four-a.ensures.value, c.four-b.ensures.value, c.index_of-t.ensures.value)
