-- `smoothing::edge_point` meets its contract. Assumes nothing.
use Rattle.smoothing.proofs.ByPoints.{edge_by}
use Rattle.smoothing.proofs.edge_point.Goals as goal

pub returns : goal.returns
returns c = rw (edge_by, c.mul.ensures, c.add-3.ensures, c.add-2.ensures, c.add.ensures)
