-- `projection::axis_bits` meets its contract. Assumes nothing.
use Rattle.projection.specs.Project.{axis_bits}
use borrow.Author.Rules.{rules}
use Rattle.projection.proofs.axis_bits.Goals as goal

pub returns : goal.returns
unfolding axis_bits
returns c = search rules
