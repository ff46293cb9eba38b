-- `refine::position` meets its contract. Assumes nothing.
use Rattle.refine.proofs.Loops.{position-centre, position-halfway}
use Rattle.refine.proofs.position.Goals as goal

pub returns-then-j-eq4 : goal.returns-then-j-eq4
returns-then-j-eq4 c =
    position-centre _ _ _ _ _ _ _ _ _ c.if-j-eq4.true c.corner_point-a.ensures c.corner_point-b.ensures c.corner_point-c.ensures c.corner_point-d.ensures c.centre.ensures

pub returns : goal.returns
returns c =
    position-halfway _ _ _ _ _ _ _ c.if-j-eq4.false c.corner_point-a-2.ensures c.corner_point-b-2.ensures c.halfway.ensures
