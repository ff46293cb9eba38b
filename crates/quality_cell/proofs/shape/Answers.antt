-- `quality_cell::shape` meets its contract. Assumes nothing.
use Rattle.rule_quality.specs.Cells.{shape_of}
use Rattle.quality_cell.proofs.shape.Goals as goal

pub returns : goal.returns
unfolding shape_of
returns c = cc
