-- `job_sum::add_squares` meets its contract. Assumes nothing.
use Rattle.job_sum.proofs.Counting.{Adding}
use Rattle.job_sum.proofs.add_squares.Given as goal

abbrev pub invariant-loop-x : goal.invariant-loop-x
invariant-loop-x l = Adding l.counts l.sum l.x-index
