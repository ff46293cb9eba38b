-- `extract_grid::corner_site` meets its contract. Assumes nothing.
use Rattle.rule_extract.specs.Lattice.{corner_site}
use borrow.Author.Rules.{rules}
use Rattle.extract_grid.proofs.corner_site.Goals as goal

pub returns : goal.returns
unfolding corner_site
returns c = search rules
