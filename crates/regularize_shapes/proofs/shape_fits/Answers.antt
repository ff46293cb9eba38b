-- `regularize_shapes::shape_fits` meets its contract. Assumes nothing.
use Rattle.rule_regularize.specs.SwapFits.{shape_fits}
use Rattle.regularize_shapes.proofs.shape_fits.Goals as goal

pub returns : goal.returns
unfolding shape_fits
returns c = cc
