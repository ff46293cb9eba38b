-- `smoothing::mean` meets its contract. Assumes nothing.
use Rattle.smoothing.specs.Rounded.{reciprocal_of}
use Rattle.smoothing.proofs.ByPoints.{mean-by}
use Rattle.points.specs.Points.{mul_p}
use Rattle.smoothing.proofs.mean.Goals as goal

pub returns : goal.returns
unfolding reciprocal_of mul_p
returns c = rw (mean-by, c.mul.ensures, c.float-count.ensures)
