-- `extract_samples::grid_of` meets its contract. Assumes nothing.
use Rattle.rule_extract.specs.Grids.{grid_of}
use Rattle.extract_samples.proofs.grid_of.Goals as goal

pub returns : goal.returns
unfolding grid_of
returns c = cc
