-- `quality_statistics::fract` meets its contract. Assumes nothing.
use Rattle.rule_quality.specs.Measure.{fract_of}
use Rattle.quality_statistics.proofs.fract.Goals as goal

pub returns : goal.returns
unfolding fract_of
returns c = cc
