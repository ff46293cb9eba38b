-- `regularize_shapes::lesser_shape` meets its contract. Assumes nothing.
use Rattle.rule_regularize.specs.SwapFits.{lesser_shape}
use Rattle.regularize_shapes.proofs.lesser_shape.Goals as goal

pub returns : goal.returns
unfolding lesser_shape
returns c = cc
