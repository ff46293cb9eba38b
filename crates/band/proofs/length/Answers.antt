-- `band::length` meets its contract. Assumes nothing.
use Rattle.points.specs.Points.{norm_p}
use Rattle.band.specs.Bands.{length_of}
use Rattle.band.proofs.length.Goals as goal

pub returns : goal.returns
unfolding length_of norm_p
returns c = cc
