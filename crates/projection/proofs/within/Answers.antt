-- `projection::within` meets its contract. Assumes nothing.
use Rattle.projection.specs.Project.{within_of}
use Rattle.projection.proofs.within.Goals as goal

pub returns : goal.returns
unfolding within_of
returns c = cc
