-- `coarsen_moves::quad_stays` meets its contract. Assumes nothing.
use Rattle.rule_coarsen.specs.MergeFits.{quad_stays}
use Rattle.coarsen_moves.proofs.quad_stays.Goals as goal

pub returns : goal.returns
unfolding quad_stays
returns c = cc
