-- `coarsen_merge::quad_free` meets its contract. Assumes nothing.
use Rattle.coarsen_merge.specs.Steps.{quad_free}
use Rattle.coarsen_merge.proofs.quad_free.Goals as goal

pub returns : goal.returns
unfolding quad_free
returns c = cc
