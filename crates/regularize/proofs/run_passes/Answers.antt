use native.Mathlib.Omega.{arith}
use Prim.Native.Nat.{◌-◌}
use mathlib.Core.Path.{◌≡◌}
use Rattle.regularize.proofs.Runs.{running-start, running-end, running_none, running_more}
use Rattle.regularize.proofs.run_passes.Goals as goal

pub loop-init : goal.loop-init
loop-init c = let e : c.args.passes - 0 ≡ c.args.passes = omega arith in rw e (running-start c.requires)

pub swap_pass-count-requires : goal.swap_pass-count-requires
swap_pass-count-requires c = c.loop.invariant.passable

pub returns-then-count-eq0 : goal.returns-then-count-eq0
returns-then-count-eq0 c =
    running_none c.loop.invariant c.swap_pass-count.ensures.swap_pass_leaves c.if-count-eq0.true

pub loop-preserved : goal.loop-preserved
loop-preserved c =
    running_more c.loop.invariant c.swap_pass-count.ensures.swap_pass_leaves (omega arith) c.if-count-eq0.false c.swap_pass-count.auto.quads c.swap_pass-count.auto.w c.saturating_add-total.ensures

pub returns : goal.returns
returns c = running-end c.loop.invariant (omega arith)
