-- `quality_cell::arm_at` meets its contract. Assumes nothing.
use Rattle.quality_cell.specs.Arms.{arm_of}
use Rattle.rule_quality.specs.Cells.{between_of}
use Rattle.quality_cell.proofs.arm_at.Goals as goal

pub returns : goal.returns
unfolding arm_of between_of
returns c = cc
