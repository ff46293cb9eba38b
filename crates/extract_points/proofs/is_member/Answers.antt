-- `extract_points::is_member` meets its contract. Assumes nothing.
use Rattle.extract_points.proofs.is_member.Goals as goal

pub returns : goal.returns
returns c = rw c.bit.ensures
