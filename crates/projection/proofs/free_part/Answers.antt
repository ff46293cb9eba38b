-- `projection::free_part` meets its contract. Assumes nothing.
use Rattle.projection.specs.Project.{free_part_of}
use Rattle.projection.proofs.free_part.Goals as goal

pub returns : goal.returns
unfolding free_part_of
returns c = cc
