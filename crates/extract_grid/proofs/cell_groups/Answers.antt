-- `extract_grid::cell_groups` meets its contract. Assumes nothing.
use Rattle.extract_grid.proofs.Signs.{groups-are}
use Rattle.extract_grid.proofs.cell_groups.Goals as goal

pub returns : goal.returns
returns c = groups-are _ _ _ _ _ c.requires.case_value c.requires.kind_value c.face_centres.ensures c.groups.ensures
