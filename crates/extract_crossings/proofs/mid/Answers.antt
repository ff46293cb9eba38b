-- `extract_crossings::mid` meets its contract. Assumes nothing.
use Rattle.rule_extract.specs.Crossings.{mid_of}
use Rattle.extract_crossings.proofs.mid.Goals as goal

pub returns : goal.returns
unfolding mid_of
returns c = cc
