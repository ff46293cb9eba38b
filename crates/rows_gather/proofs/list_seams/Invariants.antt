-- `rows_gather::list_seams` meets its contract. Assumes nothing.
use Rattle.rows_gather.proofs.Lists.{SeamLoop}
use Rattle.rows_gather.proofs.list_seams.Given as goal

abbrev pub invariant-loop-i : goal.invariant-loop-i
invariant-loop-i l = SeamLoop l.np l.nq l.quads l.labels l.initial.w l.w l.next l.i
