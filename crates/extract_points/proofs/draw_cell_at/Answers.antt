-- `extract_points::draw_cell_at` meets its contract. Assumes nothing.
use mathlib.Core.Logic.{inl, inr}
use Rattle.extract_grid.proofs.Places.{some-side}
use Rattle.extract_paths.proofs.Slots.{cell_at, case-read, cell-read}
use Rattle.extract_points.proofs.Numbers.{drawn-none, drawn-at, paths-at, room_at}
use Rattle.extract_points.proofs.draw_cell_at.Goals.{then-case-eq0-via-then-case-eq0, then-case-eq0-via-else-case-eq0+then-case-eq255}
use Rattle.extract_points.proofs.draw_cell_at.Goals as goal

pub site_at-c-requires : goal.site_at-c-requires
site_at-c-requires c = some-side _ _ c.requires.e_bound

pub case_at-case-requires : goal.case_at-case-requires
case_at-case-requires c = cell-read _ _ c.requires.samples c.requires.e_bound c.site_at-c.ensures

pub returns-then-case-eq0 : goal.returns-then-case-eq0
returns-then-case-eq0 c =
    let the_pair = drawn-none _ _ _ _ _ _ _ c.site_at-c.ensures (case-read _ _ c.requires.samples c.requires.e_bound c.site_at-c.ensures c.case_at-case.ensures) (elim c.then-case-eq0.branch [ then-case-eq0-via-then-case-eq0 w ↦ inl w.if-case-eq0.true | then-case-eq0-via-else-case-eq0+then-case-eq255 w ↦ inr w.if-case-eq255.true ]) in record { value = the_pair.0; out_after = the_pair.1.0; numbered = the_pair.1.1 }

pub draw_cell-requires : goal.draw_cell-requires
draw_cell-requires c =
    record { cell_at = cell_at c.requires.samples c.requires.e_bound c.requires.cell_paths.fits c.site_at-c.ensures; cell_paths = paths-at _ c.site_at-c.ensures c.requires.cell_paths; case_value = case-read _ _ c.requires.samples c.requires.e_bound c.site_at-c.ensures c.case_at-case.ensures; place_bound = c.requires.place_bound; place_value = c.requires.place_value; c_in_bounds = room_at _ _ _ _ _ c.site_at-c.ensures c.requires.e_in_bounds }

pub returns : goal.returns
returns c =
    let the_pair = drawn-at _ _ _ _ _ _ c.site_at-c.ensures (c.draw_cell.ensures.value, (c.draw_cell.ensures.out_after, c.draw_cell.ensures.numbered)) in record { value = the_pair.0; out_after = the_pair.1.0; numbered = the_pair.1.1 }
