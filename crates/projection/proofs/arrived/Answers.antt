-- `projection::arrived` meets its contract. Assumes nothing.
use Rattle.projection.specs.Project.{arrived_of}
use Rattle.projection.proofs.arrived.Goals as goal

pub returns : goal.returns
unfolding arrived_of
returns c = cc
