-- `rows_copies::with_centre` meets its contract. Assumes nothing.
use Rattle.std.proofs.Common.{rules}
use Rattle.rows_copies.specs.Steps.{with_centre}
use Rattle.rows_copies.proofs.with_centre.Goals as goal

pub returns : goal.returns
unfolding with_centre
returns c = search rules
