-- `band::difference` meets its contract. Assumes nothing.
use Rattle.band.specs.Bands.{difference_of}
use Rattle.band.proofs.difference.Goals as goal

pub returns : goal.returns
unfolding difference_of
returns c = cc
