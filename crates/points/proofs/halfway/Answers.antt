-- `points::halfway` meets its contract. Assumes nothing.
use Rattle.points.specs.Points.{halfway_p}
use Rattle.points.proofs.halfway.Goals as goal

pub returns : goal.returns
unfolding halfway_p
returns c =
    simp (← c.halfway-x.ensures.value, ← c.halfway-y.ensures.value, ← c.halfway-z.ensures.value)
