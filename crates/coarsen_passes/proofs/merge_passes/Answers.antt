use Prim.Native.Nat.{◌-◌}
use mathlib.Core.Path.{◌≡◌}
use native.Mathlib.Omega.{arith}
use Rattle.coarsen_passes.proofs.Passes.{running-start, running-end, running-next, total-fits, running_none, running_more}
use Rattle.coarsen_passes.proofs.merge_passes.Goals as goal

pub loop-init : goal.loop-init
loop-init c = let e : c.args.passes - 0 ≡ c.args.passes = omega arith in rw e (running-start _ c.requires)

pub merge_once-m-requires : goal.merge_once-m-requires
merge_once-m-requires c =
    record { coarsenable = running-next c.loop.invariant (omega arith); len_value = c.length-len.ensures }

pub returns-then-m-eq0 : goal.returns-then-m-eq0
returns-then-m-eq0 c =
    running_none c.loop.invariant (omega arith) c.merge_once-m.ensures (omega (arith, c.if-m-eq0.true))

pub overflow_add-total : goal.overflow_add-total
overflow_add-total c =
    omega (arith, total-fits c.loop.invariant (omega arith) c.merge_once-m.ensures)

pub loop-preserved : goal.loop-preserved
loop-preserved c =
    running_more c.loop.invariant (omega arith) c.merge_once-m.ensures (omega arith) c.merge_once-m.auto.points c.merge_once-m.auto.quads c.merge_once-m.auto.labels c.merge_once-m.auto.w c.merge_once-m.auto.floats

pub returns : goal.returns
returns c = running-end c.loop.invariant (omega arith)
