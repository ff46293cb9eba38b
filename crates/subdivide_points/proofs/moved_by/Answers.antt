-- `subdivide_points::moved_by` meets its contract. Assumes nothing.
use Rattle.std.proofs.Common.{rules}
use Rattle.subdivide_points.specs.Steps.{moved_by}
use Rattle.subdivide_points.proofs.moved_by.Goals as goal

pub returns-in-Zero : goal.returns-in-Zero
unfolding moved_by
returns-in-Zero c = search rules

pub returns-in-Two : goal.returns-in-Two
unfolding moved_by
returns-in-Two c = search rules

pub returns-in-One : goal.returns-in-One
unfolding moved_by
returns-in-One c = search rules
