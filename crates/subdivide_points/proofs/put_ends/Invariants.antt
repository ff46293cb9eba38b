-- `subdivide_points::put_ends` meets its contract. Assumes nothing.
use Prim.Native.Nat.{◌*◌}
use Rattle.lists.specs.Regions.{part}
use Rattle.lists.proofs.Laws.{Filled}
use Rattle.subdivide_points.specs.Steps.{end_at}
use Rattle.subdivide_points.proofs.put_ends.Given as goal

abbrev pub invariant-loop-i : goal.invariant-loop-i
invariant-loop-i l = Filled (end_at l.quads (part l.order (4 * l.nq) l.w)) l.initial.ends (4 * l.nq) l.ends l.i
