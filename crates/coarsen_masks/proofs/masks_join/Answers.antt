-- `coarsen_masks::masks_join` meets its contract. Assumes nothing.
use Rattle.coarsen_masks.specs.Masks.{masks_joined}
use Rattle.coarsen_masks.proofs.masks_join.Goals as goal

pub returns : goal.returns
unfolding masks_joined
returns c = cc
