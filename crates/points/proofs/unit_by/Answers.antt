-- `points::unit_by` meets its contract. Assumes nothing.
use Rattle.points.specs.Points.{unit_by}
use Rattle.points.proofs.unit_by.Goals as goal

pub returns : goal.returns
unfolding unit_by
returns c = cc
