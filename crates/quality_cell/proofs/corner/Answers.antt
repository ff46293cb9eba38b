-- `quality_cell::corner` meets its contract. Assumes nothing.
use Rattle.rule_quality.specs.Cells.{corner_of}
use Rattle.quality_cell.proofs.corner.Goals as goal

pub returns : goal.returns
unfolding corner_of
returns c = cc
