-- `extract_paths::put_path` meets its contract. Assumes nothing.
use native.Mathlib.Omega.{arith}
use Rattle.extract_paths.proofs.Slots.{cell-number, slot_of, pathed-put, pathed-skip, kind-says, sign-says}
use Rattle.extract_paths.proofs.put_path.Goals as goal

pub bit-sign-requires : goal.bit-sign-requires
bit-sign-requires c = omega arith

pub edge_path-p-requires : goal.edge_path-p-requires
edge_path-p-requires c =
    record { cell_at = c.requires.cell_at; j_bound = c.requires.j_bound; pathed = c.requires.pathed; j_value = kind-says _ _ _ c.requires.case_value c.requires.kind_value c.requires.j_bound c.bit.ensures c.if-bit.true; sign_value = sign-says _ _ _ c.requires.case_value c.low_end.ensures.value c.requires.j_bound c.bit-sign.ensures }

pub overflow_mul-w : goal.overflow_mul-w
overflow_mul-w c = let n = cell-number c.requires.cell_at in omega arith

pub overflow_add-w : goal.overflow_add-w
overflow_add-w c = let n = cell-number c.requires.cell_at in omega arith

pub bounds-w-e : goal.bounds-w-e
bounds-w-e c = omega arith

pub returns-then-bit : goal.returns-then-bit
returns-then-bit c =
    pathed-put _ c.requires.pathed (slot_of _ c.requires.cell_at c.requires.j_bound) (omega arith) c.edge_path-p.ensures

pub returns-else-bit : goal.returns-else-bit
returns-else-bit c =
    pathed-skip c.requires.pathed (slot_of _ c.requires.cell_at c.requires.j_bound) (omega arith) (kind-says _ _ _ c.requires.case_value c.requires.kind_value c.requires.j_bound c.bit.ensures c.if-bit.false)
