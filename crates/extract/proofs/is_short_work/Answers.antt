-- `extract::is_short_work` meets its contract. Assumes nothing.
use native.Mathlib.Omega.{arith}
use Prim.Native.Nat.{◌+◌}
use Rattle.extract.proofs.Stages.{cube}
use Rattle.extract.proofs.is_short_work.Goals as goal

pub overflow_mul-result : goal.overflow_mul-result
overflow_mul-result c = let m = cube (c.args.cells + 3) (omega arith) in omega arith

pub overflow_mul-result-2 : goal.overflow_mul-result-2
overflow_mul-result-2 c = let m = cube (c.args.cells + 3) (omega arith) in omega arith

pub overflow_mul-result-3 : goal.overflow_mul-result-3
overflow_mul-result-3 c = let n = cube (c.args.cells + 2) (omega arith) in omega arith

pub overflow_mul-result-4 : goal.overflow_mul-result-4
overflow_mul-result-4 c = let n = cube (c.args.cells + 2) (omega arith) in omega arith

pub overflow_mul-result-5 : goal.overflow_mul-result-5
overflow_mul-result-5 c = let n = cube (c.args.cells + 2) (omega arith) in omega arith
