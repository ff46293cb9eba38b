-- `projection::moved` meets its contract. Assumes nothing.
use Rattle.projection.specs.Project.{moved_of}
use Rattle.projection.proofs.moved.Goals as goal

pub returns : goal.returns
unfolding moved_of
returns c = cc
