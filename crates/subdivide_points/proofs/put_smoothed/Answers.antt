-- `subdivide_points::put_smoothed` meets its contract. Assumes nothing.
use native.Mathlib.Omega.{arith}
use mathlib.Core.Path.{refl}
use Rattle.refine.proofs.Rule.{numbered_of}
use Rattle.subdivide_points.proofs.Sheets.{gathering-of, still-finished, gathered-of, placing-of, smooth-points, smooth-quads, smooth-labels}
use Rattle.subdivide_points.proofs.put_smoothed.Goals as goal

pub gather-requires : goal.gather-requires
gather-requires c = gathering-of c.requires _ refl

pub put_old_points-requires : goal.put_old_points-requires
put_old_points-requires c =
    record { gathered = gathered-of c.requires (c.gather.ensures.ends, (c.gather.ensures.listed, (c.gather.ensures.seconds, c.gather.ensures.kept))); np_in_bounds = omega (arith, c.requires.finished.in_points) }

pub put_places-requires : goal.put_places-requires
put_places-requires c =
    record { placing = placing-of c.requires (c.gather.ensures.ends, (c.gather.ensures.listed, (c.gather.ensures.seconds, c.gather.ensures.kept))) _ c.put_old_points.auto.out; numbered = numbered_of (still-finished c.requires (c.gather.ensures.ends, (c.gather.ensures.listed, (c.gather.ensures.seconds, c.gather.ensures.kept)))); np_in_bounds = omega (arith, c.requires.finished.in_points) }

pub put_quads-requires : goal.put_quads-requires
put_quads-requires c =
    record { nq_in_bounds = c.requires.finished.held.cornered.quads; nq_in_bounds_2 = (still-finished c.requires (c.gather.ensures.ends, (c.gather.ensures.listed, (c.gather.ensures.seconds, c.gather.ensures.kept)))).worked.numbers.fits; nq_in_bounds_3 = omega (arith, c.requires.finished.in_quads) }

pub put_labels-requires : goal.put_labels-requires
put_labels-requires c =
    record { nq_in_bounds = c.requires.finished.labelled; nq_in_bounds_2 = c.requires.finished.in_labels }

pub returns : goal.returns
returns c =
    record { front = smooth-points c.requires (c.gather.ensures.ends, (c.gather.ensures.listed, (c.gather.ensures.seconds, c.gather.ensures.kept))) c.put_old_points.ensures c.put_places.ensures; front_2 = smooth-quads c.requires (c.gather.ensures.ends, (c.gather.ensures.listed, (c.gather.ensures.seconds, c.gather.ensures.kept))) c.put_quads.ensures; front_3 = smooth-labels c.requires c.put_labels.ensures }
