use native.Mathlib.Omega.{arith}
use Rattle.job_sum.proofs.Counting.{adding-turn, adding-fits}
use Rattle.job_sum.proofs.add_squares.Goals as goal

pub overflow_add-sum : goal.overflow_add-sum
overflow_add-sum c =
    omega (arith, adding-fits c.loop-x.invariant c.loop-x-test.true c.square-sum.ensures c.requires)

pub loop-x-preserved : goal.loop-x-preserved
loop-x-preserved c = adding-turn c.loop-x.invariant c.loop-x-test.true c.square-sum.ensures
