-- `refine::put_labels` meets its contract. Assumes nothing.
use Prim.Native.Nat.{◌*◌}
use Rattle.lists.proofs.Laws.{Filled}
use Rattle.refine.specs.Requests.{label_at}
use Rattle.refine.proofs.put_labels.Given as goal

abbrev pub invariant-loop-i : goal.invariant-loop-i
invariant-loop-i l = Filled (label_at l.labels) l.initial.out (4 * l.nq) l.out l.i
