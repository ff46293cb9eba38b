-- `extract_samples::steps` meets its contract. Assumes nothing.
use Rattle.rule_extract.specs.Grids.{steps_of}
use Rattle.extract_samples.proofs.steps.Goals as goal

pub returns : goal.returns
unfolding steps_of
returns c = cc
