-- `extract_edges::row_count` meets its contract. Assumes nothing.
use native.Mathlib.Omega.{arith}
use Rattle.extract_edges.proofs.Counts.{rows_are, rows-room}
use Rattle.extract_edges.proofs.row_count.Goals as goal

pub overflow_mul-result : goal.overflow_mul-result
overflow_mul-result c = let R = rows-room _ c.requires in omega (arith, R.from, R.to)

pub overflow_sub-result : goal.overflow_sub-result
overflow_sub-result c = let R = rows-room _ c.requires in omega (arith, R.from, R.to)

pub overflow_mul-result-2 : goal.overflow_mul-result-2
overflow_mul-result-2 c = let R = rows-room _ c.requires in omega (arith, R.from, R.to)

pub returns : goal.returns
returns c =
    let R = rows-room _ c.requires in
    record { value = rows_are _; upper_bound = omega (arith, R.to) }
