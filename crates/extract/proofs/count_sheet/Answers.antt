-- `extract::count_sheet` meets its contract. Assumes nothing.
use Rattle.extract.proofs.Stages.{counts-are}
use Rattle.extract.proofs.count_sheet.Goals as goal

pub count_quads-quads-requires : goal.count_quads-quads-requires
count_quads-quads-requires c = c.requires

pub returns : goal.returns
returns c =
    record { value = counts-are _ _ _ _ c.count_points-points.ensures.value c.count_quads-quads.ensures.value; points_bound = c.count_points-points.ensures.upper_bound }
