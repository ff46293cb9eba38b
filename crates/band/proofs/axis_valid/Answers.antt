-- `band::axis_valid` meets its contract. Assumes nothing.
use Rattle.band.specs.Bands.{axis_valid_of}
use Rattle.band.proofs.axis_valid.Goals as goal

pub returns : goal.returns
unfolding axis_valid_of
returns c = cc
