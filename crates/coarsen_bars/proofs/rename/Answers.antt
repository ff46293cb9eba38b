-- `coarsen_bars::rename` meets its contract. Assumes nothing.
use Rattle.coarsen_bars.proofs.Marks.{nameable-lent, renamed-lent}
use Rattle.coarsen_bars.proofs.rename.Goals as goal

pub rename_corners-requires : goal.rename_corners-requires
rename_corners-requires c = rw c.range-corners.ensures (nameable-lent _ c.requires.start_holds c.corners_of.ensures c.requires.nq_in_bounds)

pub returns : goal.returns
returns c = renamed-lent _ _ _ c.corners_of.ensures (rw c.range-corners.ensures at c.rename_corners.ensures)
