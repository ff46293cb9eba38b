-- `subdivide_points::put_seconds` meets its contract. Assumes nothing.
use Prim.Native.Nat.{◌*◌}
use Rattle.lists.specs.Regions.{part}
use Rattle.subdivide_points.proofs.Pairs.{SecondLoop}
use Rattle.subdivide_points.proofs.put_seconds.Given as goal

abbrev pub invariant-loop-k : goal.invariant-loop-k
invariant-loop-k l = SecondLoop l.nq l.order l.second (part l.order (4 * l.nq) l.initial.w) l.initial.w l.w l.k
