-- `points::centre` meets its contract. Assumes nothing.
use Rattle.points.specs.Points.{centre_p}
use Rattle.points.proofs.centre.Goals as goal

pub returns : goal.returns
unfolding centre_p
returns c = cc
