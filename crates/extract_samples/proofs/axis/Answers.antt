-- `extract_samples::axis` meets its contract. Assumes nothing.
use Rattle.rule_extract.specs.Samples.{axis_of}
use Rattle.extract_samples.proofs.axis.Goals as goal

pub returns : goal.returns
unfolding axis_of
returns c = cc
