-- `quality_readings::good_normal` meets its contract. Assumes nothing.
use Rattle.rule_quality.specs.Measure.{good_normal}
use Rattle.quality_readings.proofs.good_normal.Goals as goal

pub returns : goal.returns
unfolding good_normal
returns c = cc
