use native.Mathlib.Omega.{arith}
use Rattle.regularize_pass.proofs.Sweeps.{sweeping-start, sweeping-turn, sweeping-end}
use Rattle.regularize_pass.proofs.sweep.Goals as goal

pub loop-i-init : goal.loop-i-init
loop-i-init c = sweeping-start c.requires.begin_pass_leaves c.requires.try_asks

pub loop-i-preserved : goal.loop-i-preserved
loop-i-preserved c =
    sweeping-turn c.loop-i.invariant c.loop-i-test.true c.try_edge-count.auto.quads c.try_edge-count.ensures

pub returns-clause-swap_pass_leaves : goal.returns-clause-swap_pass_leaves
returns-clause-swap_pass_leaves c =
    sweeping-end c.loop-i.invariant (omega arith)
