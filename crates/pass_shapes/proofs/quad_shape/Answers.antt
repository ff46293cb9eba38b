-- `pass_shapes::quad_shape` meets its contract. Assumes nothing.
use Rattle.rule_passes.specs.Shapes.{quad_shape}
use Rattle.pass_shapes.proofs.quad_shape.Goals as goal

pub returns : goal.returns
unfolding quad_shape
returns c = cc
