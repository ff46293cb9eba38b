-- `rows_gather::number_copies` meets its contract. Assumes nothing.
use Rattle.rows_gather.proofs.Numbers.{NumberLoop}
use Rattle.rows_gather.proofs.number_copies.Given as goal

abbrev pub invariant-loop-k : goal.invariant-loop-k
invariant-loop-k l = NumberLoop l.np l.masks l.num l.initial.w l.w l.next l.k
