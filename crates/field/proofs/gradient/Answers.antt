-- `field::gradient` meets its contract. Assumes nothing.
use Rattle.field.specs.Fields.{field_gradient_of}
use Rattle.field.proofs.gradient.Goals as goal

pub returns-in-Plane : goal.returns-in-Plane
unfolding field_gradient_of
returns-in-Plane c = rw c.in-Plane.is

pub returns-in-Ball : goal.returns-in-Ball
unfolding field_gradient_of
returns-in-Ball c = rw c.in-Ball.is

pub returns-in-Quadric : goal.returns-in-Quadric
unfolding field_gradient_of
returns-in-Quadric c = rw c.in-Quadric.is
