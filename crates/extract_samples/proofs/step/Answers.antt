-- `extract_samples::step` meets its contract. Assumes nothing.
use Rattle.rule_extract.specs.Grids.{step_of}
use Rattle.extract_samples.proofs.step.Goals as goal

pub returns : goal.returns
unfolding step_of
returns c = cc
