-- `extract_samples::start` meets its contract. Assumes nothing.
use Rattle.rule_extract.specs.Grids.{start_of}
use Rattle.extract_samples.proofs.start.Goals as goal

pub returns : goal.returns
unfolding start_of
returns c = cc
