-- `coarsen_merge::square` meets its contract. Assumes nothing.
use Prim.Native.Nat.{◌-◌}
use native.Mathlib.Omega.{arith}
use Rattle.rule_sheet.proofs.Weigh.{sq-low, sq-high}
use Rattle.coarsen_merge.proofs.Gains.{square_le}
use Rattle.coarsen_merge.proofs.square.Goals as goal

pub overflow_mul-result : goal.overflow_mul-result
overflow_mul-result c = omega (arith, square_le (4 - c.args.k) (omega arith))

pub returns-then-k-lt4 : goal.returns-then-k-lt4
returns-then-k-lt4 c = sq-low _ c.if-k-lt4.true

pub overflow_mul-result-2 : goal.overflow_mul-result-2
overflow_mul-result-2 c = omega (arith, square_le (c.args.k - 4) (omega arith))

pub returns : goal.returns
returns c = sq-high _ (omega arith)
