-- `extract_paths::edge_path` meets its contract. Assumes nothing.
use native.Mathlib.Omega.{arith}
use Rattle.extract_paths.proofs.Slots.{cell-number, cell-least, cell-near, edge-near, copied_source, found-path}
use mathlib.Core.Path.{refl}
use Rattle.extract_paths.proofs.edge_path.Goals as goal

pub overflow_mul-slot : goal.overflow_mul-slot
overflow_mul-slot c = let n = cell-number c.requires.cell_at in omega arith

pub overflow_add-slot : goal.overflow_add-slot
overflow_add-slot c = let n = cell-number c.requires.cell_at in omega arith

pub source-s-requires : goal.source-s-requires
source-s-requires c =
    record { cell_at = cell-least c.requires.cell_at; j_bound = c.requires.j_bound; slot_value = refl }

pub bounds-w-s : goal.bounds-w-s
bounds-w-s c = omega arith

pub returns-then-s-slot : goal.returns-then-s-slot
returns-then-s-slot c =
    copied_source _ _ c.requires.pathed c.requires.cell_at c.requires.j_bound c.source-s.ensures c.if-s-slot.true c.requires.j_value

pub edge_site-requires : goal.edge_site-requires
edge_site-requires c = record { near = cell-near c.requires.cell_at; e_bound = c.requires.j_bound }

pub path-requires : goal.path-requires
path-requires c = edge-near _ c.requires.cell_at c.edge_site.ensures

pub returns : goal.returns
returns c = found-path _ _ _ _ c.path.ensures c.requires.sign_value c.edge_site.ensures
