-- `rows_copies::put_copies` meets its contract. Assumes nothing.
use Rattle.lists.specs.Regions.{part}
use Rattle.rows_gather.specs.Steps.{masks_at}
use Rattle.rows_copies.proofs.Put.{CopyLoop}
use Rattle.rows_copies.proofs.put_copies.Given as goal

abbrev pub invariant-loop-k : goal.invariant-loop-k
invariant-loop-k l = CopyLoop l.b l.np l.nq l.points l.quads l.labels (part (masks_at l.np l.nq) l.np l.w) l.initial.out l.out l.k
