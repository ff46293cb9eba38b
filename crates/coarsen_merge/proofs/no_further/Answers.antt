-- `coarsen_merge::no_further` meets its contract. Assumes nothing.
use Rattle.coarsen_merge.proofs.Start.{listed-lent, further-lent}
use Rattle.coarsen_merge.proofs.no_further.Goals as goal

pub none_further-requires : goal.none_further-requires
none_further-requires c = rw c.range.ensures (listed-lent c.requires.start_holds c.corners_of.ensures)

pub returns : goal.returns
returns c = further-lent _ _ _ c.corners_of.ensures (rw c.range.ensures at c.none_further.ensures)
