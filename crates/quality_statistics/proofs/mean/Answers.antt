-- `quality_statistics::mean` meets its contract. Assumes nothing.
use Rattle.rule_quality.specs.Measure.{mean_of}
use Rattle.quality_statistics.proofs.mean.Goals as goal

pub returns : goal.returns
unfolding mean_of
returns c = cc
