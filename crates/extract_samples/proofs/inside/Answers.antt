-- `extract_samples::inside` meets its contract. Assumes nothing.
use Rattle.rule_extract.specs.Samples.{is_inside}
use Rattle.extract_samples.proofs.inside.Goals as goal

pub returns : goal.returns
unfolding is_inside
returns c = cc
