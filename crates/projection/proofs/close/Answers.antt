-- `projection::close` meets its contract. Assumes nothing.
use Rattle.projection.specs.Project.{close_of}
use Rattle.projection.proofs.close.Goals as goal

pub returns-then-inside : goal.returns-then-inside
unfolding close_of
returns-then-inside c = simp (← c.inside.ensures, c.if-inside.true)

pub returns : goal.returns
unfolding close_of
returns c = simp (← c.inside.ensures, c.if-inside.false)
