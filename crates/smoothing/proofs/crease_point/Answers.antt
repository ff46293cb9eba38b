-- `smoothing::crease_point` meets its contract. Assumes nothing.
use Rattle.smoothing.proofs.ByPoints.{crease-by}
use Rattle.smoothing.proofs.crease_point.Goals as goal

pub returns : goal.returns
returns c = rw (crease-by, c.mul-2.ensures, c.add-2.ensures, c.add.ensures, c.mul.ensures)
