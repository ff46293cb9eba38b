-- `subdivide_points::with_crease` meets its contract. Assumes nothing.
use Rattle.std.proofs.Common.{rules}
use Rattle.subdivide_points.specs.Steps.{with_crease}
use Rattle.subdivide_points.proofs.with_crease.Goals as goal

pub returns-in-Zero : goal.returns-in-Zero
unfolding with_crease
returns-in-Zero c = search rules

pub returns-in-One : goal.returns-in-One
unfolding with_crease
returns-in-One c = search rules

pub returns-in-Two : goal.returns-in-Two
unfolding with_crease
returns-in-Two c = search rules
