-- `extract_grid::edge_site` meets its contract. Assumes nothing.
use mathlib.Core.Path.{◌∙◌, ap}
use Rattle.rule_extract.specs.Lattice.{edge_site, corner_site}
use Rattle.extract_grid.proofs.edge_site.Goals as goal

pub returns : goal.returns
unfolding edge_site
returns c = c.corner_site.ensures ∙ ap (corner_site _) c.low_end.ensures.value
