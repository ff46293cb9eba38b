-- `coarsen_masks::part_of` meets its contract. Assumes nothing.
use borrow.Author.Rules.{rules}
use Rattle.coarsen_masks.specs.Masks.{part_of}
use Rattle.coarsen_masks.proofs.part_of.Goals as goal

pub returns : goal.returns
unfolding part_of
returns c = search rules
