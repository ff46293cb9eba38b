-- `extract_samples::levels` meets its contract. Assumes nothing.
use Rattle.rule_extract.specs.Samples.{levels_of}
use Rattle.extract_samples.proofs.levels.Goals as goal

pub returns : goal.returns
unfolding levels_of
returns c = cc
