-- `coarsen_bars::touch_around` meets its contract. Assumes nothing.
use Rattle.coarsen_bars.proofs.Bars.{touching-start, touching-turn, rounding-end}
use Rattle.coarsen_bars.proofs.touch_around.Goals as goal

pub loop-i-init : goal.loop-i-init
loop-i-init c =
    rw (c.into_iter-i-iterator.ensures.into_iter_gives, c.range-i-items.ensures)
    (touching-start c.requires.start_holds c.corners_of.ensures)

pub touch_quad-requires-clause-q_lt_nq : goal.touch_quad-requires-clause-q_lt_nq
touch_quad-requires-clause-q_lt_nq c =
    let s = c.in-Some.ensures.steps in
    (touching-turn _ c.requires.start_holds c.loop-i.invariant s.1.0 s.1.1 c.at.ensures).q<

pub loop-i-preserved : goal.loop-i-preserved
loop-i-preserved c =
    let s = c.in-Some.ensures.steps in
    rw (s.0, s.1.2)
    ((touching-turn _ c.requires.start_holds c.loop-i.invariant s.1.0 s.1.1 c.at.ensures).next _ c.touch_quad.ensures.part c.touch_quad.ensures.kept)

pub returns-clause-part : goal.returns-clause-part
returns-clause-part c = (rounding-end c.loop-i.invariant c.in-None.ensures.steps.1.0).0
