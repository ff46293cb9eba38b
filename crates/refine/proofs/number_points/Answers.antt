use native.Mathlib.Omega.{arith}
use Rattle.refine.proofs.Loops.{numbers-start, numbers-ready, numbers-turn, numbers-small, numbers-end}
use Rattle.refine.proofs.number_points.Goals as goal

pub loop-t-init : goal.loop-t-init
loop-t-init c = numbers-start c.requires

pub number_at-k-requires : goal.number_at-k-requires
number_at-k-requires c = record { numbering = numbers-ready c.loop-t.invariant; t_lt_m = c.loop-t-test.true }

pub own_at-next-requires : goal.own_at-next-requires
own_at-next-requires c =
    record { t_lt_m = c.loop-t-test.true; m_in_bounds = (numbers-ready c.loop-t.invariant).in_first }

pub overflow_add-next : goal.overflow_add-next
overflow_add-next c =
    omega (arith, numbers-small c.loop-t.invariant _ c.loop-t-test.true c.own_at-next.ensures, c.loop-t.invariant.start.few)

pub loop-t-preserved : goal.loop-t-preserved
loop-t-preserved c =
    numbers-turn c.loop-t.invariant _ _ c.loop-t-test.true c.number_at-k.ensures c.own_at-next.ensures

pub returns : goal.returns
returns c =
    let the_pair = numbers-end c.loop-t.invariant (omega arith) in record { value = the_pair.0; part = the_pair.1.0; kept = the_pair.1.1 }
