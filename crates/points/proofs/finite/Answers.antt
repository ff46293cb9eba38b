-- `points::finite` meets its contract. Assumes nothing.
use Rattle.points.specs.Points.{finite_p}
use Rattle.points.proofs.finite.Goals as goal

pub returns : goal.returns
unfolding finite_p
returns c = cc
