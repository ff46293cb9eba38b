-- `sheet::is_bare` meets its contract. Assumes nothing.
use Rattle.sheet.specs.Sheet.{bare_by}
use Rattle.sheet.proofs.is_bare.Goals as goal

pub returns : goal.returns
unfolding bare_by
returns c = rw c.finite_points-finite.ensures
