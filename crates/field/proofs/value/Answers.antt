-- `field::value` meets its contract. Assumes nothing.
use Rattle.field.specs.Fields.{value_of}
use Rattle.field.proofs.value.Goals as goal

pub returns-in-Plane : goal.returns-in-Plane
unfolding value_of
returns-in-Plane c = rw c.in-Plane.is

pub returns-in-Ball : goal.returns-in-Ball
unfolding value_of
returns-in-Ball c = rw c.in-Ball.is

pub returns-in-Quadric : goal.returns-in-Quadric
unfolding value_of
returns-in-Quadric c = rw c.in-Quadric.is
