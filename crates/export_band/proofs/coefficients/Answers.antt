-- `export_band::coefficients` meets its contract. Assumes nothing.
use Rattle.export_band.proofs.coefficients.Goals as goal

pub returns : goal.returns
returns c = cc
