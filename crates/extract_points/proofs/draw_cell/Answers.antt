-- `extract_points::draw_cell` meets its contract. Assumes nothing.
use native.Mathlib.Omega.{arith}
use Rattle.extract_points.proofs.Counts.{known-cell}
use Rattle.extract_paths.proofs.Slots.{cell-near}
use Rattle.extract_points.proofs.draw_cell.Goals as goal

pub cell_groups-groups-requires : goal.cell_groups-groups-requires
cell_groups-groups-requires c =
    record { near = cell-near c.requires.cell_at; case_value = c.requires.case_value; kind_value = c.cell_kind-kind.ensures }

pub put_groups-next-requires : goal.put_groups-next-requires
put_groups-next-requires c =
    record { cell_at = c.requires.cell_at; cell_paths = c.requires.cell_paths; known = known-cell c.requires.case_value c.cell_kind-kind.ensures c.cell_groups-groups.ensures; place_bound = omega (arith, c.requires.place_bound); c_in_bounds = c.requires.c_in_bounds }

pub put_numbers-requires : goal.put_numbers-requires
put_numbers-requires c =
    record { cell_at = c.requires.cell_at; cell_paths = c.requires.cell_paths; known = known-cell c.requires.case_value c.cell_kind-kind.ensures c.cell_groups-groups.ensures; first_bound = c.requires.place_bound; first_value = c.requires.place_value }

pub returns : goal.returns
returns c =
    record { value = c.put_groups-next.ensures.value; out_after = c.put_groups-next.ensures.out_after; numbered = c.put_numbers.ensures }
