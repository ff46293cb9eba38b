-- `points::put_point` meets its contract. Assumes nothing.
use Rattle.points.specs.Steps.{with_point}
use lib.ListN.{length-set}
use native.Mathlib.Omega.{arith}
use borrow.Author.Rules.{rules}
use Rattle.points.proofs.put_point.Goals as goal

pub bounds-points-i-2 : goal.bounds-points-i-2
bounds-points-i-2 c = simp length-set (omega arith)

pub bounds-points-i-3 : goal.bounds-points-i-3
bounds-points-i-3 c = simp length-set (omega arith)

pub returns : goal.returns
unfolding with_point
returns c = search rules
