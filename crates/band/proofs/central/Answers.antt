-- `band::central` meets its contract. Assumes nothing.
use Rattle.band.specs.Bands.{central_of}
use Rattle.band.proofs.central.Goals as goal

pub returns : goal.returns
unfolding central_of
returns c = cc
