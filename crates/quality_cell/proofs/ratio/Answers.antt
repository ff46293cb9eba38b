-- `quality_cell::ratio` meets its contract. Assumes nothing.
use Rattle.quality_cell.specs.Arms.{ratio_of}
use Rattle.quality_cell.proofs.ratio.Goals as goal

pub returns : goal.returns
unfolding ratio_of
returns c = cc
