-- `extract_crossings::keeps_side` meets its contract. Assumes nothing.
use Rattle.rule_extract.specs.Crossings.{keeps}
use Rattle.extract_crossings.proofs.keeps_side.Goals as goal

pub returns : goal.returns
unfolding keeps
returns c = cc
