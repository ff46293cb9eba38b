-- `points::unit` meets its contract. Assumes nothing.
use Rattle.points.specs.Points.{unit_p}
use Rattle.points.proofs.unit.Goals as goal

pub returns : goal.returns
unfolding unit_p
returns c = cc
