-- `points::sub` meets its contract. Assumes nothing.
use borrow.Author.Rules.{rules}
use Rattle.points.specs.Points.{sub_p}
use Rattle.points.proofs.sub.Goals as goal

pub returns : goal.returns
unfolding sub_p
returns c = search rules
