-- `coarsen_moves::moved_shape` meets its contract. Assumes nothing.
use Rattle.rule_passes.specs.Shapes.{quad_shape}
use Rattle.coarsen_moves.proofs.moved_shape.Goals as goal

pub returns : goal.returns
unfolding quad_shape
returns c = cc
