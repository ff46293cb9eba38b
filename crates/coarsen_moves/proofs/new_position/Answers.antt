-- `coarsen_moves::new_position` meets its contract. Assumes nothing.
use Rattle.coarsen_moves.proofs.new_position.Goals as goal

pub returns : goal.returns
returns c = cc
