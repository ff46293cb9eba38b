-- `extract_crossings::edge_span` meets its contract. Assumes nothing.
use Rattle.rule_extract.specs.Crossings.{edge_span}
use Rattle.extract_crossings.proofs.edge_span.Goals as goal

pub returns : goal.returns
unfolding edge_span
returns c = cc
