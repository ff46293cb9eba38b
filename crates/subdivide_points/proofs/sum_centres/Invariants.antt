-- `subdivide_points::sum_centres` meets its contract. Assumes nothing.
use Rattle.std.proofs.Common.{◌≡◌, map, take}
use Rattle.smoothing.specs.Smooth.{sum_of}
use Rattle.smoothing.specs.Rounded.{pointwise}
use Rattle.subdivide_points.specs.Steps.{corner_centre}
use Rattle.subdivide_points.proofs.sum_centres.Given as goal

abbrev pub invariant-loop-c : goal.invariant-loop-c
invariant-loop-c l = l.sum ≡ sum_of pointwise (map (corner_centre l.points l.quads) (take l.c-index l.corners))
