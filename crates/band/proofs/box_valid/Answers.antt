-- `band::box_valid` meets its contract. Assumes nothing.
use Rattle.band.specs.Bands.{box_valid_of}
use Rattle.band.proofs.box_valid.Goals as goal

pub returns : goal.returns
unfolding box_valid_of
returns c = cc
