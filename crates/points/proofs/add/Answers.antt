-- `points::add` meets its contract. Assumes nothing.
use borrow.Author.Rules.{rules}
use Rattle.points.specs.Points.{add_p}
use Rattle.points.proofs.add.Goals as goal

pub returns : goal.returns
unfolding add_p
returns c = search rules
