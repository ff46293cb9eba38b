-- `extract_grid::site_at` meets its contract. Assumes nothing.
use borrow.Author.Rules.{rules}
use Rattle.rule_extract.specs.Lattice.{site_at}
use Rattle.extract_grid.proofs.site_at.Goals as goal

pub returns : goal.returns
unfolding site_at
returns c = search rules
