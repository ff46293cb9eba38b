-- `extract_samples::scale` meets its contract. Assumes nothing.
use Rattle.rule_extract.specs.Grids.{scale_of}
use Rattle.extract_samples.proofs.scale.Goals as goal

pub returns : goal.returns
unfolding scale_of
returns c = cc
