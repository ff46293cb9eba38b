-- `quality_statistics::value_at_place` meets its contract. Assumes nothing.
use Rattle.rule_quality.specs.Measure.{value_at_place}
use Rattle.quality_statistics.proofs.value_at_place.Goals as goal

pub returns : goal.returns
unfolding value_at_place
returns c = cc
