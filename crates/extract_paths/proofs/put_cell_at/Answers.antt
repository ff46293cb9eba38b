-- `extract_paths::put_cell_at` meets its contract. Assumes nothing.
use native.Mathlib.Omega.{arith}
use mathlib.Core.Logic.{inl, inr}
use Rattle.extract_grid.proofs.Places.{some-side}
use Rattle.extract_paths.proofs.Slots.{cell_at, case-read, cell-read, no-crossing, pathed-over}
use Rattle.extract_paths.proofs.put_cell_at.Goals.{then-case-eq0-via-then-case-eq0, then-case-eq0-via-else-case-eq0+then-case-eq255}
use Rattle.extract_paths.proofs.put_cell_at.Goals as goal

pub site_at-c-requires : goal.site_at-c-requires
site_at-c-requires c = some-side _ _ c.requires.e_bound

pub overflow_add-n : goal.overflow_add-n
overflow_add-n c = omega arith

pub case_at-case-requires : goal.case_at-case-requires
case_at-case-requires c = cell-read _ _ c.requires.samples c.requires.e_bound c.site_at-c.ensures

pub returns-then-case-eq0 : goal.returns-then-case-eq0
returns-then-case-eq0 c =
    pathed-over _ _ c.requires.pathed (cell_at c.requires.samples c.requires.e_bound c.requires.e_in_bounds c.site_at-c.ensures) (no-crossing _ _ _ (case-read _ _ c.requires.samples c.requires.e_bound c.site_at-c.ensures c.case_at-case.ensures)
    (elim c.then-case-eq0.branch [
      | then-case-eq0-via-then-case-eq0 w ↦ inl w.if-case-eq0.true
      | then-case-eq0-via-else-case-eq0+then-case-eq255 w ↦ inr w.if-case-eq255.true
    ]))

pub put_cell-requires : goal.put_cell-requires
put_cell-requires c =
    record { cell_at = cell_at c.requires.samples c.requires.e_bound c.requires.e_in_bounds c.site_at-c.ensures; pathed = c.requires.pathed; case_value = case-read _ _ c.requires.samples c.requires.e_bound c.site_at-c.ensures c.case_at-case.ensures }
