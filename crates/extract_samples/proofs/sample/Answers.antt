-- `extract_samples::sample` meets its contract. Assumes nothing.
use Rattle.rule_extract.specs.Samples.{sample_of}
use Rattle.extract_samples.proofs.sample.Goals as goal

pub returns : goal.returns
unfolding sample_of
returns c = cc
