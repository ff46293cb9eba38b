-- `extract_paths::stride` meets its contract. Assumes nothing.
use native.Mathlib.Omega.{arith}
use borrow.Author.Tests.{ne_eqb}
use Rattle.std.proofs.Common.{◌≢◌}
use Rattle.extract_paths.specs.Paths.{stride_of}
use Rattle.extract_paths.proofs.stride.Goals as goal

pub returns-in-0 : goal.returns-in-0
unfolding stride_of
returns-in-0 c = rw c.in-0.is

pub returns-in-1 : goal.returns-in-1
unfolding stride_of
returns-in-1 c = rw c.in-1.is

pub returns-in_default : goal.returns-in_default
unfolding stride_of
returns-in_default c =
    let a : c.args.axis ≢ 0 = omega arith in let b : c.args.axis ≢ 1 = omega arith in simp (ne_eqb _ _ a, ne_eqb _ _ b)
