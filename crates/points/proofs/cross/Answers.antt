-- `points::cross` meets its contract. Assumes nothing.
use borrow.Author.Rules.{rules}
use Rattle.points.specs.Points.{cross_p}
use Rattle.points.proofs.cross.Goals as goal

pub returns : goal.returns
unfolding cross_p
returns c = search rules
