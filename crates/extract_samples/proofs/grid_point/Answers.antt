-- `extract_samples::grid_point` meets its contract. Assumes nothing.
use Rattle.rule_extract.specs.Grids.{grid_point}
use Rattle.extract_samples.proofs.grid_point.Goals as goal

pub returns : goal.returns
unfolding grid_point
returns c = cc
