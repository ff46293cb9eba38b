-- `edges::is_edge` meets its contract. Assumes nothing.
use mathlib.Core.Path.{◌∙◌}
use Rattle.edges.proofs.Maps.{edge-rising}
use Rattle.edges.proofs.is_edge.Goals as goal

pub returns : goal.returns
returns c = c.is_rising_edge.ensures ∙ rw (c.min.ensures, c.max.ensures) (edge-rising _ _ _ _)
