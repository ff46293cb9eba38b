-- `coarsen_masks::no_opposite` meets its contract. Assumes nothing.
use borrow.Author.Rules.{rules}
use Rattle.coarsen_masks.specs.Masks.{no_opposite}
use Rattle.coarsen_masks.proofs.no_opposite.Goals as goal

pub returns : goal.returns
unfolding no_opposite
returns c = search rules
