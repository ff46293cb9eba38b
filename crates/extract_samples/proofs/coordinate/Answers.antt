-- `extract_samples::coordinate` meets its contract. Assumes nothing.
use Rattle.rule_extract.specs.Grids.{coordinate_of}
use Rattle.extract_samples.proofs.coordinate.Goals as goal

pub returns : goal.returns
unfolding coordinate_of
returns c = cc
