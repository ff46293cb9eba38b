use native.Mathlib.Omega.{arith}
use Rattle.coarsen_bars.proofs.Bars.{barring-start, bar-turn, barring-end}
use Rattle.coarsen_bars.proofs.bar_quad.Goals as goal

pub loop-j-init : goal.loop-j-init
loop-j-init c = barring-start c.args.q c.requires.start_holds c.requires.touched_holds c.requires.q_lt_nq

pub bar_point-requires : goal.bar_point-requires
bar_point-requires c =
    record { start_holds = c.loop-j.invariant.grounds; touched_holds = c.loop-j.invariant.barred.touched; x_lt_np = (bar-turn _ c.requires.start_holds c.requires.q_lt_nq c.loop-j.invariant c.loop-j-test.true c.at.ensures).c< }

pub loop-j-preserved : goal.loop-j-preserved
loop-j-preserved c =
    (bar-turn _ c.requires.start_holds c.requires.q_lt_nq c.loop-j.invariant c.loop-j-test.true c.at.ensures).next _ c.bar_point.ensures

pub returns : goal.returns
returns c = barring-end c.requires.start_holds c.requires.q_lt_nq c.loop-j.invariant (omega arith)
