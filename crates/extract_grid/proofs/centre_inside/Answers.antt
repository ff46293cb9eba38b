-- `extract_grid::centre_inside` meets its contract. Assumes nothing.
use Rattle.rule_extract.specs.Lattice.{centre_inside}
use Rattle.extract_grid.proofs.centre_inside.Goals as goal

pub returns : goal.returns
unfolding centre_inside
returns c = cc
