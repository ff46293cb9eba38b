-- `band::gradient` meets its contract. Assumes nothing.
use Rattle.band.specs.Bands.{gradient_with}
use Rattle.band.proofs.gradient.Goals as goal

pub returns-in-Some : goal.returns-in-Some
unfolding gradient_with
returns-in-Some c = rw (← c.gradient-own.ensures, c.in-Some.is)

pub returns-in-None : goal.returns-in-None
unfolding gradient_with
returns-in-None c = rw (← c.gradient-own.ensures, c.in-None.is) c.central.ensures
