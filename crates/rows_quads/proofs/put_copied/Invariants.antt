-- `rows_quads::put_copied` meets its contract. Assumes nothing.
use Prim.Native.Nat.{◌*◌}
use Rattle.lists.specs.Regions.{part}
use Rattle.lists.proofs.Laws.{Filled}
use Rattle.rows_quads.specs.Steps.{corner_in}
use Rattle.rows_gather.specs.Steps.{masks_at}
use Rattle.rows_quads.proofs.put_copied.Given as goal

abbrev pub invariant-loop-c : goal.invariant-loop-c
invariant-loop-c l = Filled (corner_in l.np l.quads l.labels (part (masks_at l.np l.nq) l.np l.w)) l.initial.out (4 * l.nq) l.out l.c
