-- `coarsen_compact::pack` meets its contract. Assumes nothing.
use Prim.Native.Nat.{◌*◌}
use Rattle.lists.specs.Regions.{part}
use Rattle.coarsen_compact.specs.Compact.{element_stays}
use Rattle.coarsen_compact.proofs.Packing.{Packing}
use Rattle.coarsen_compact.proofs.pack.Given as goal

abbrev pub invariant-loop-i : goal.invariant-loop-i
invariant-loop-i g l = Packing (element_stays g.row.SIZE (part l.removed l.nq l.w)) g.T.Zero.ZERO l.initial.xs l.xs (g.row.SIZE * l.nq) l.i l.k
