use native.Mathlib.Omega.{arith}
use Rattle.extract_paths.proofs.Slots.{cell-kept, cell-start, cell-turn, cell-end}
use Rattle.extract_paths.proofs.put_cell.Goals as goal

pub loop-j-init : goal.loop-j-init
loop-j-init c = cell-start _ c.requires.pathed

pub put_path-requires : goal.put_path-requires
put_path-requires c =
    record { cell_at = cell-kept _ _ c.loop-j.auto.w c.requires.cell_at; j_bound = c.loop-j-test.true; pathed = c.loop-j.invariant; case_value = c.requires.case_value; kind_value = c.cell_kind-kind.ensures }

pub loop-j-preserved : goal.loop-j-preserved
loop-j-preserved c = cell-turn _ _ c.put_path.ensures

pub returns : goal.returns
returns c = cell-end _ c.loop-j.invariant (omega arith)
