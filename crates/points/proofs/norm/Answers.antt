-- `points::norm` meets its contract. Assumes nothing.
use Rattle.points.specs.Points.{norm_p}
use Rattle.points.proofs.norm.Goals as goal

pub returns : goal.returns
unfolding norm_p
returns c = cc
