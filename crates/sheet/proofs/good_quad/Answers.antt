-- `sheet::good_quad` meets its contract. Assumes nothing.
use Rattle.sheet.proofs.good_quad.Goals as goal

pub returns : goal.returns
returns c = cc
