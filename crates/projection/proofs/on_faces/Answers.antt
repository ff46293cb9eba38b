-- `projection::on_faces` meets its contract. Assumes nothing.
use Rattle.projection.specs.Project.{on_faces_of}
use Rattle.projection.proofs.on_faces.Goals as goal

pub returns : goal.returns
unfolding on_faces_of
returns c = cc
