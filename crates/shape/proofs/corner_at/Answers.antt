-- `shape::corner_at` meets its contract. Assumes nothing.
use Rattle.shape.proofs.corner_at.Goals as goal

pub returns : goal.returns
returns c = cc
