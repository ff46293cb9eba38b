-- `quality_cell::jacobian` meets its contract. Assumes nothing.
use Rattle.quality_cell.proofs.TenRoots.{ten-roots}
use Rattle.quality_cell.proofs.jacobian.Goals as goal

pub returns : goal.returns
returns c = rw (← ten-roots _ _) cc
