-- `smoothing::interior_point` meets its contract. Assumes nothing.
use Rattle.smoothing.proofs.ByPoints.{interior-by}
use Rattle.smoothing.proofs.interior_point.Goals as goal

pub returns : goal.returns
returns c =
    rw (interior-by, c.mean.ensures, c.add-2.ensures, c.mul-2.ensures, c.float.ensures)
    (rw (c.add.ensures, c.mul.ensures, c.mean-edge.ensures, c.mean-face.ensures))
