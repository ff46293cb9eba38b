-- `refine::in_range` meets its contract. Assumes nothing.
use Rattle.std.proofs.Common.{rules}
use Rattle.refine.proofs.Loops.{low-all}
use Rattle.refine.proofs.in_range.Goals as goal

pub returns : goal.returns
returns c = low-all _ _ _ _ c.requires (search rules)
