-- `points::point_at` meets its contract. Assumes nothing.
use Rattle.points.specs.Points.{point_at}
use borrow.Author.Rules.{rules}
use Rattle.points.proofs.point_at.Goals as goal

pub returns : goal.returns
unfolding point_at
returns c = search rules
