-- `extract_samples::middle` meets its contract. Assumes nothing.
use Rattle.rule_extract.specs.Grids.{middle_of}
use Rattle.extract_samples.proofs.middle.Goals as goal

pub returns-then-own : goal.returns-then-own
unfolding middle_of
returns-then-own c = simp c.if-own.true c.coordinate.ensures

pub returns : goal.returns
unfolding middle_of
returns c = simp c.if-own.false cc
