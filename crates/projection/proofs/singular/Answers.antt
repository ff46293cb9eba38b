-- `projection::singular` meets its contract. Assumes nothing.
use Rattle.projection.specs.Project.{singular_of}
use Rattle.projection.proofs.singular.Goals as goal

pub returns : goal.returns
unfolding singular_of
returns c = cc
