-- `quality_cell::area` meets its contract. Assumes nothing.
use Rattle.rule_quality.specs.Cells.{area_of}
use Rattle.quality_cell.proofs.area.Goals as goal

pub returns : goal.returns
unfolding area_of
returns c = cc
