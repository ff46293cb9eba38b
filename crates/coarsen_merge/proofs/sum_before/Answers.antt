-- `coarsen_merge::sum_before` meets its contract. Assumes nothing.
use native.Mathlib.Omega.{arith}
use Rattle.coarsen_merge.specs.Steps.{sum_of_four}
use Rattle.coarsen_merge.proofs.Gains.{sq-le}
use Rattle.coarsen_merge.proofs.sum_before.Goals as goal

pub overflow_add-result : goal.overflow_add-result
overflow_add-result c =
    let p = sq-le c.args.c (omega arith) in let q = sq-le c.args.d (omega arith) in omega arith

pub overflow_add-result-2 : goal.overflow_add-result-2
overflow_add-result-2 c =
    let p = sq-le c.args.c (omega arith) in let q = sq-le c.args.d (omega arith) in let r = sq-le c.args.b (omega arith) in omega arith

pub overflow_add-result-3 : goal.overflow_add-result-3
overflow_add-result-3 c =
    let p = sq-le c.args.c (omega arith) in let q = sq-le c.args.d (omega arith) in let r = sq-le c.args.b (omega arith) in let s = sq-le c.args.a (omega arith) in omega arith

pub returns : goal.returns
unfolding sum_of_four
returns c = cc
