-- `projection::look_at` meets its contract. Assumes nothing.
use Rattle.projection.specs.Project.{look_of}
use Rattle.projection.proofs.look_at.Goals as goal

pub returns : goal.returns
unfolding look_of
returns c = cc
