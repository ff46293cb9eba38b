-- `subdivide_points::sum_halfways` meets its contract. Assumes nothing.
use Rattle.std.proofs.Common.{◌≡◌, map, take}
use Rattle.smoothing.specs.Smooth.{sum_of}
use Rattle.smoothing.specs.Rounded.{pointwise}
use Rattle.subdivide_points.specs.Steps.{halfway_to}
use Rattle.subdivide_points.proofs.sum_halfways.Given as goal

abbrev pub invariant-loop-i : goal.invariant-loop-i
invariant-loop-i l = l.sum ≡ sum_of pointwise (map (halfway_to l.p l.points l.ends) (take l.i-index l.places))
