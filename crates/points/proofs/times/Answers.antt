-- `points::times` meets its contract. Assumes nothing.
use borrow.Author.Rules.{rules}
use Rattle.points.specs.Points.{times_p}
use Rattle.points.proofs.times.Goals as goal

pub returns : goal.returns
unfolding times_p
returns c = search rules
