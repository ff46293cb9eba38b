-- `extract_points::crossing_at` meets its contract. Assumes nothing.
use native.Mathlib.Omega.{arith}
use Rattle.extract_paths.proofs.Slots.{cell-number, cell-near, edge-near}
use Rattle.extract_points.proofs.Means.{crossing-read}
use Rattle.extract_points.proofs.crossing_at.Goals as goal

pub edge_site-requires : goal.edge_site-requires
edge_site-requires c = record { near = cell-near c.requires.cell_at; e_bound = c.requires.e_bound }

pub overflow_mul-i : goal.overflow_mul-i
overflow_mul-i c = let n = cell-number c.requires.cell_at in omega arith

pub overflow_add-i : goal.overflow_add-i
overflow_add-i c = let n = cell-number c.requires.cell_at in omega arith

pub replay-requires : goal.replay-requires
replay-requires c = edge-near _ c.requires.cell_at c.edge_site.ensures

pub returns : goal.returns
returns c = crossing-read _ _ _ _ c.requires.e_value c.edge_site.ensures c.replay.ensures
