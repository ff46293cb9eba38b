-- `projection::look_with` meets its contract. Assumes nothing.
use Rattle.projection.specs.Project.{look_with}
use Rattle.projection.proofs.look_with.Goals as goal

pub returns-then-singular : goal.returns-then-singular
unfolding look_with
returns-then-singular c = simp (← c.norm-gn.ensures, ← c.singular.ensures, c.if-singular.true)

pub returns-then-arrived : goal.returns-then-arrived
unfolding look_with
returns-then-arrived c =
    simp (← c.norm-gn.ensures, ← c.singular.ensures, c.if-singular.false, ← c.arrived.ensures, c.if-arrived.true)

pub returns : goal.returns
unfolding look_with
returns c =
    simp (← c.norm-gn.ensures, ← c.singular.ensures, c.if-singular.false, ← c.arrived.ensures, c.if-arrived.false, ← c.moved.ensures)
