-- `shape::shape` meets its contract. Assumes nothing.
use Rattle.shape.specs.Shapes.{shape_of}
use Rattle.shape.proofs.shape.Goals as goal

pub returns : goal.returns
unfolding shape_of
returns c = cc
