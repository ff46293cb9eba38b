-- `extract_samples::farther` meets its contract. Assumes nothing.
use Rattle.rule_extract.specs.Samples.{farther_of}
use Rattle.extract_samples.proofs.farther.Goals as goal

pub returns-then-distance-best : goal.returns-then-distance-best
unfolding farther_of
returns-then-distance-best c = simp c.if-distance-best.true

pub returns : goal.returns
unfolding farther_of
returns c = simp c.if-distance-best.false
