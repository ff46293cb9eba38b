-- `coarsen_bars::bar_around` meets its contract. Assumes nothing.
use Rattle.coarsen_bars.proofs.Bars.{around-start, around-turn, around-end}
use Rattle.coarsen_bars.proofs.bar_around.Goals as goal

pub loop-i-init : goal.loop-i-init
loop-i-init c =
    rw (c.into_iter-i-iterator.ensures.into_iter_gives, c.range-i-items.ensures)
    (around-start c.requires.start_holds c.requires.touched_holds c.corners_of.ensures)

pub bar_quad-requires-clause-q_lt_nq : goal.bar_quad-requires-clause-q_lt_nq
bar_quad-requires-clause-q_lt_nq c =
    let s = c.in-Some.ensures.steps in
    (around-turn _ c.requires.start_holds c.loop-i.invariant s.1.0 s.1.1 c.at.ensures).q<

pub loop-i-preserved : goal.loop-i-preserved
loop-i-preserved c =
    let s = c.in-Some.ensures.steps in
    rw (s.0, s.1.2) (
      (around-turn _ c.requires.start_holds c.loop-i.invariant s.1.0 s.1.1 c.at.ensures).next _ c.bar_quad.ensures.used c.bar_quad.ensures.kept,
      c.bar_quad.ensures.touched,
    )

pub returns : goal.returns
returns c = around-end c.loop-i.invariant c.in-None.ensures.steps.1.0
