-- `extract_grid::sample_at` meets its contract. Assumes nothing.
use Rattle.rule_extract.specs.Lattice.{value_at}
use Rattle.extract_grid.proofs.sample_at.Goals as goal

pub returns : goal.returns
unfolding value_at
returns c = cc
