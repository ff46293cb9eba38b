-- `regularize_shapes::hex_centre` meets its contract. Assumes nothing.
use Rattle.rule_regularize.specs.SwapFits.{hex_centre}
use Rattle.regularize_shapes.proofs.hex_centre.Goals as goal

pub returns : goal.returns
unfolding hex_centre
returns c = cc
