-- `rows_quads::put_strip_labels` meets its contract. Assumes nothing.
use lib.ListN.{get_or}
use Rattle.lists.proofs.Laws.{Filled}
use Rattle.rows_gather.specs.Steps.{seams_of, corner_label}
use Rattle.rows_quads.proofs.put_strip_labels.Given as goal

abbrev pub invariant-loop-t : goal.invariant-loop-t
invariant-loop-t l = Filled (λ k. corner_label l.labels (get_or (seams_of l.np l.nq l.quads l.labels) k 0)) l.initial.out l.m l.out l.t
