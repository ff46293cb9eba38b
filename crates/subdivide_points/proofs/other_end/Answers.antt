-- `subdivide_points::other_end` meets its contract. Assumes nothing.
use Rattle.subdivide_points.specs.Steps.{other_end}
use Rattle.subdivide_points.proofs.other_end.Goals as goal

pub returns : goal.returns
unfolding other_end
returns c = c.at.ensures
