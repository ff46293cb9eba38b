-- `coarsen_pass::prepare` meets its contract. Assumes nothing.
use native.Mathlib.Omega.{arith}
use Rattle.coarsen_pass.proofs.Begin.{asks-kept, prepared}
use Rattle.coarsen_pass.proofs.prepare.Goals as goal

pub mask_sheet-requires : goal.mask_sheet-requires
mask_sheet-requires c =
    record { holds = c.requires.holds; nq_value = c.requires.good; np_in_bounds = omega arith }

pub map_sheet-requires : goal.map_sheet-requires
map_sheet-requires c = asks-kept c.requires.map c.mask_sheet.ensures.kept.len

pub clear_marks-requires : goal.clear_marks-requires
clear_marks-requires c = c.map_sheet.ensures.map.work.long

pub returns : goal.returns
returns c =
    prepared _ _ c.requires c.mask_sheet.ensures.part c.mask_sheet.ensures.kept c.map_sheet.ensures c.clear_marks.ensures
