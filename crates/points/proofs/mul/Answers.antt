-- `points::mul` meets its contract. Assumes nothing.
use borrow.Author.Rules.{rules}
use Rattle.points.specs.Points.{mul_p}
use Rattle.points.proofs.mul.Goals as goal

pub returns : goal.returns
unfolding mul_p
returns c = search rules
