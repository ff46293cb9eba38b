-- `subdivide_points::ones` meets its contract. Assumes nothing.
use mathlib.Core.Path.{refl}
use Rattle.subdivide_points.specs.Steps.{ones_of}
use Rattle.subdivide_points.proofs.ones.Goals as goal

pub returns : goal.returns
unfolding ones_of
returns c = refl
