-- `extract_samples::starts` meets its contract. Assumes nothing.
use Rattle.rule_extract.specs.Grids.{starts_of}
use Rattle.extract_samples.proofs.starts.Goals as goal

pub returns : goal.returns
unfolding starts_of
returns c = cc
