use Rattle.projection.proofs.Walks.{walk_step, walk_none}
use Rattle.projection.proofs.walk.Goals as goal

pub returns-in-Singular : goal.returns-in-Singular
returns-in-Singular c =
    rw (← c.loop.invariant, walk_step _ _ _ _ _ _ _ _ c.loop-test.true, ← c.look_at-l.ensures, c.in-Singular.is)

pub returns-in-Arrived : goal.returns-in-Arrived
returns-in-Arrived c =
    rw (← c.loop.invariant, walk_step _ _ _ _ _ _ _ _ c.loop-test.true, ← c.look_at-l.ensures, c.in-Arrived.is)

pub loop-preserved : goal.loop-preserved
loop-preserved c =
    rw (← c.loop.invariant, walk_step _ _ _ _ _ _ _ _ c.loop-test.true, ← c.look_at-l.ensures, c.in-Moved.is)

pub returns : goal.returns
returns c = rw (← c.loop.invariant, walk_none _ _ _ _ _ _ _ _ c.loop-test.false)
