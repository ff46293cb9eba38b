-- `band::measurable_levels` meets its contract. Assumes nothing.
use Rattle.band.specs.Bands.{measurable_levels_of}
use Rattle.band.proofs.measurable_levels.Goals as goal

pub returns : goal.returns
unfolding measurable_levels_of
returns c = rw (← c.is_finite.ensures, ← c.is_finite-2.ensures)
