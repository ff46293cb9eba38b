-- `quality_cell::arms_of` meets its contract. Assumes nothing.
use Rattle.quality_cell.specs.Arms.{arms_of}
use Rattle.quality_cell.proofs.arms_of.Goals as goal

pub returns : goal.returns
unfolding arms_of
returns c = cc
