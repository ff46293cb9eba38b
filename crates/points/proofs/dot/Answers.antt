-- `points::dot` meets its contract. Assumes nothing.
use borrow.Author.Rules.{rules}
use Rattle.points.specs.Points.{dot_p}
use Rattle.points.proofs.dot.Goals as goal

pub returns : goal.returns
unfolding dot_p
returns c = search rules
