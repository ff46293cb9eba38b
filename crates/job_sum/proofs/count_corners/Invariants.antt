-- `job_sum::count_corners` meets its contract. Assumes nothing.
use lib.ListN.{length}
use Rattle.job_sum.proofs.Counting.{Counting}
use Rattle.job_sum.proofs.count_corners.Given as goal

abbrev pub invariant-loop-i : goal.invariant-loop-i
invariant-loop-i l = Counting l.corners l.n (length l.initial.counts) l.counts l.i
