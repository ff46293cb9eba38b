-- `subdivide_points::creases_at` meets its contract. Assumes nothing.
use Rattle.std.proofs.Common.{◌≡◌, ◌*◌, take}
use Rattle.lists.specs.Regions.{part}
use Rattle.subdivide_points.specs.Steps.{creases_of, crease_ends}
use Rattle.subdivide_points.proofs.creases_at.Given as goal

abbrev pub invariant-loop-i : goal.invariant-loop-i
invariant-loop-i l = l.c ≡ creases_of (crease_ends l.labels (part l.order (4 * l.nq) l.w) l.ends (take l.i-index l.places))
