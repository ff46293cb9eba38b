-- `job_sum::square` meets its contract. Assumes nothing.
use Prim.Native.Nat.{◌≤◌}
use native.Mathlib.Omega.{arith}
use native.Mathlib.Nat.{mul-le-mul}
use Rattle.job_sum.proofs.Counting.{far_squared}
use Rattle.job_sum.proofs.square.Goals as goal

pub overflow_mul-result : goal.overflow_mul-result
overflow_mul-result c = let h : c.from-far.result ≤ 4294967295 = omega arith in omega (arith, mul-le-mul h h)

pub returns : goal.returns
returns c = far_squared c.args.k c.from-far.result (omega arith)
