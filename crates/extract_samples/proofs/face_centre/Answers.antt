-- `extract_samples::face_centre` meets its contract. Assumes nothing.
use Rattle.rule_extract.specs.Grids.{face_centre}
use Rattle.extract_samples.proofs.face_centre.Goals as goal

pub returns : goal.returns
unfolding face_centre
returns c = cc
