-- `edges::same_edge` meets its contract. Assumes nothing.
use Rattle.edges.specs.Steps.{same_edge}
use Rattle.edges.proofs.same_edge.Goals as goal

pub returns : goal.returns
unfolding same_edge
returns c = rw (c.point_after-f.ensures, c.at-e.ensures, c.point_after-b.ensures, c.at-a.ensures)
