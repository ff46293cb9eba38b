-- `shape::corner` meets its contract. Assumes nothing.
use Rattle.shape.specs.Shapes.{corner_of}
use Rattle.shape.proofs.corner.Goals as goal

pub returns : goal.returns
unfolding corner_of
returns c = cc
